-- The text of a node where the names of the nodes below it are those of `let`: its term over the names of the bound nodes.
use Prim.Native.Nat.{ℕ, zero, suc, ◌<◌}
use Rattle.std.specs.Prelude.{◌≡◌, refl, Bool, cond, length, get_or}
use Rattle.std.proofs.Math.Path.{ap, sym}
use Rattle.std.proofs.Common.{◌∙◌, arith}
use Rattle.std.proofs.Math.Bool.{true, false}
use mathlib.Core.List.{List, [], ◌++◌, append-nil}
use Rattle.lists.specs.Bytes.{bytes}
use Rattle.lists.specs.Build.{upto-below}
use Rattle.reading.specs.Trees.{Tree, variable, constant}
use Rattle.echo_spec.specs.Input.{Node, shape, no_node, Dag}
use Rattle.echo_spec.specs.Widths.{ext_wf_of}
use Rattle.echo_spec.specs.Trees.{tree_step}
use Rattle.echo_spec.specs.Render.{quoted, term}
use Rattle.lets.specs.Lets.{let_name, named, named_step, named_below, named_of}
use Rattle.echo_tables.specs.declared.Form.TheVariants.{Leaf}
use Rattle.echo_tables.specs.Forms.{form_as}
use Rattle.echo_walk.specs.Texts as texts
use Rattle.echo_walk.specs.Texts.{head_of, form_text, Style, text_in, plain, planned}
use Rattle.echo_walk.specs.StyleLaws.{text-passed, form-text, node-facts, own_below, planned-head, planned-form, named-head, named-form}

name-text : (i : ℕ) → term (variable (let_name i)) ≡ texts.named i
unfolding term quoted let_name texts.named bytes
name-text i = refl

module _ (d : Dag) (nbits : ℕ) (ws bits : List ℕ) (widths : ws ≡ ext_wf_of nbits d.array-widths d.side d.nodes) (plan : ℕ → Bool) (bound : ℕ → Bool) where
  abbrev node : ℕ → Node
  node i = get_or d.nodes i no_node

  abbrev style : Style
  style = planned plan (plain d ws bits)

  -- below i a node has a name where it is bound
  abbrev Agree : ℕ → Type 0
  Agree i = (j : ℕ) → j < i → plan j ≡ bound j

  -- a node that is named
  name-is : (i : ℕ) → plan i ≡ true → text_in style i ≡ term (variable (let_name i))
  unfolding form_text plain planned
  name-is i e =
      let f : style.form i ≡ Leaf = named-form plan (plain d ws bits) i e in
      text-passed style i (rw f tt)
      ∙ (λ k. named-head plan (plain d ws bits) i e k ++ form_text (text_in style) d.side (f k)) ∙ append-nil (texts.named i) ∙ sym (name-text i)

  -- a node that is not, over the texts of the nodes below it
  term_is : (i : ℕ) → i < length ws → plan i ≡ false → text_in style i ≡ head_of d ws bits i ++ form_text (text_in style) d.side (form_as (node i) (shape (node i)))
  unfolding plain planned
  term_is i h e =
      let f : style.form i ≡ form_as (node i) (shape (node i)) = planned-form plan (plain d ws bits) i e in
      text-passed style i (rw f (own_below d nbits ws bits widths i h))
      ∙ λ k. planned-head plan (plain d ws bits) i e k ++ form_text (text_in style) d.side (f k)

  -- node i written out is its term over the uses of the nodes below it
  abbrev Own : ℕ → Type 0
  Own i = head_of d ws bits i ++ form_text (text_in style) d.side (form_as (node i) (shape (node i))) ≡ term (named_of d ws bits bound i)

  by-plan : (j : ℕ) → j < length ws → Own j → (b : Bool) → plan j ≡ b → term (cond b (variable (let_name j)) (named_of d ws bits bound j)) ≡ text_in style j
  by-plan j h own true q = sym (name-is j q)
  by-plan j h own false q = sym (term_is j h q ∙ own)

  agree : (i : ℕ) → i < length ws → Agree i → ((j : ℕ) → j < i → Own j) → (j : ℕ) → j < i → term (named bound (named_below d ws bits bound i) j) ≡ text_in style j
  unfolding named named_of
  agree i h a own j k =
      ap (λ (t : Tree). term (cond (bound j) (variable (let_name j)) t)) (upto-below (named_step d ws bits bound) (constant []) i j k)
      ∙ by-plan j (omega arith) (own j k) (bound j) (a j k)

  own-upto : (m i : ℕ) → i < m → i < length ws → Agree i → Own i
  unfolding named_of named_step tree_step head_of
  own-upto zero i l h a = absurd (omega arith)
  own-upto (suc m) i l h a =
      sym (form-text (named bound (named_below d ws bits bound i)) (text_in style) i
      (agree i h a (λ j k. own-upto m j (omega arith) (omega arith) (λ x y. a x (omega arith)))) d ws bits (node i) (shape (node i)) nbits
      (node-facts d nbits ws bits widths i h).form (own_below d nbits ws bits widths i h))

  -- a bound node is written out while it has no name yet
  pub own-text : (i : ℕ) → i < length ws → Agree i → plan i ≡ false → text_in style i ≡ term (named_of d ws bits bound i)
  own-text i h a e = term_is i h e ∙ own-upto (suc i) i (omega arith) h a

  -- a node where it is used
  pub use-text : (i : ℕ) → i < length ws → Agree (suc i) → text_in style i ≡ term (named bound (named_of d ws bits bound) i)
  unfolding named
  use-text i h a = by-plan (bound i) (a i (omega arith))
    where
      by-plan : (b : Bool) → plan i ≡ b → text_in style i ≡ term (cond b (variable (let_name i)) (named_of d ws bits bound i))
      by-plan true q = name-is i q
      by-plan false q = own-text i h (λ j k. a j (omega arith)) q
