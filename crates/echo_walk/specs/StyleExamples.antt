-- Computed: M2's root plain, and with node 2 written as its name.
use Rattle.std.specs.Prelude.{ℕ, ◌≡◌, refl, false, eqb, List, [], ◌∷◌}
use Rattle.lists.specs.Bytes.{bytes}
use Rattle.lists.specs.Build.{upto, find_from}
use Rattle.echo_spec.specs.Shapes.{shapes}
use Rattle.echo_spec.specs.Input.{array_columns, Node, Dag, part, names_of}
use Rattle.echo_spec.specs.Tables.{find_node}
use Rattle.echo_spec.specs.Trees.{constant_bits, variable_name}
use Rattle.echo_spec.specs.Render.{symbols, symbol_of, decimal, decimal_digits, binary_digits, quoted}
use Rattle.echo_tables.specs.Forms.{form_as}
use Rattle.echo_walk.specs.Texts.{head_as, head_of, one_text, two_text, form_text, text_step, text_in, plain, named, planned}

abbrev pub nodes : List Node
nodes =
    record { kind = 0; a = 8; b = 0; c = 0; d = 0 } ∷ record { kind = 1; a = 0; b = 8; c = 0; d = 0 }
    ∷ record { kind = 2; a = 0; b = 1; c = 0; d = 0 } ∷ record { kind = 19; a = 2; b = 0; c = 0; d = 0 } ∷ []

abbrev pub m2 : Dag
m2 = record {
  nodes = nodes;
  side = [];
  names = 120 ∷ [];
  name_start = 0 ∷ [];
  name_len = 1 ∷ [];
  var_node = 0 ∷ [];
  var_width = 8 ∷ [];
  anames = [];
  aname_start = [];
  aname_len = [];
  array-widths = array_columns [] [];
  fnames = [];
  fname_start = [];
  fname_len = [];
  func_width = [];
}

abbrev pub five : List ℕ
five = 1 ∷ 0 ∷ 1 ∷ 0 ∷ 0 ∷ 0 ∷ 0 ∷ 0 ∷ []

abbrev pub widths : List ℕ
widths = 8 ∷ 8 ∷ 8 ∷ 1 ∷ []

pub plain-text : text_in (planned (λ _. false) (plain m2 widths five)) 3 ≡ bytes "(= (bvadd |x| #b00000101) |x|)"
unfolding text_in text_step planned plain head_of head_as form_as form_text two_text one_text upto find_from find_node variable_name part names_of shapes constant_bits binary_digits quoted symbol_of symbols bytes
plain-text = refl

pub named-text : text_in (planned (λ i. eqb i 2) (plain m2 widths five)) 3 ≡ bytes "(= |d2| |x|)"
unfolding text_in text_step planned plain head_of head_as form_as form_text two_text one_text upto find_from find_node variable_name part names_of shapes constant_bits binary_digits quoted symbol_of symbols named decimal decimal_digits bytes
named-text = refl
