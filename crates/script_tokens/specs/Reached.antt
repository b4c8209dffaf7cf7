-- What the readers of tokens answer, beside the readers of the specification: a place stands for the bytes from it on.
use Rattle.std.specs.Prelude.{ℕ, ◌-◌, ◌≤◌, ◌<◌, ◌≡◌, List, [], Bool, not, cond, eqb, length, take, drop, Some, None}
use Rattle.std.specs.Prelude.{Option as Maybe}
use Rattle.std.proofs.Math.Option.{Option, none}
use Rattle.reading.specs.Trees.{Name}
use Rattle.smtlib.specs.Lexicon.{binary_digit}
use Rattle.echo_spec.specs.Input.{fits64}
use Rattle.readback.specs.Reader.{Took, took, and_then, up_to, read_numeral, word_end}
use Rattle.script_tokens.specs.declared.Number.{Number}

-- the bytes from place a up to place e
abbrev pub between : List ℕ → ℕ → ℕ → List ℕ
between s a e = take (e - a) (drop a s)

-- nothing was read, or something, and what follows is what stands from the place on
abbrev pub Reached : List ℕ → Option (Took (List ℕ)) → Maybe ℕ → Type 0
Reached s o None = o ≡ none
Reached s o (Some e) = (e ≤ length s) × (o ≡ took [] (drop e s))

-- a name that is read from place a on ends with the bar before place e
abbrev pub NameTo : List ℕ → ℕ → Option (Took Name) → Maybe ℕ → Type 0
NameTo s a o None = o ≡ none
NameTo s a o (Some e) = (a < e) × (e ≤ length s) × (o ≡ took (between s a (e - 1)) (drop e s))

-- the bytes from place a up to the first that ends it, or to the end, and those from there on
pub record Stretch (ends : ℕ → Bool) (s : List ℕ) (a e : ℕ) : Type 0 where
  pub low : a ≤ e
  pub high : e ≤ length s
  pub read : up_to ends (drop a s) ≡ record { value = between s a e; rest = drop e s }

-- what ends a name, the digits of a constant, the head of a term
abbrev pub ends_name : ℕ → Bool
ends_name c = eqb c 124

abbrev pub ends_digits : ℕ → Bool
ends_digits c = not (binary_digit c)

abbrev pub ends_word : ℕ → Bool
ends_word c = word_end c

-- a numeral whose number has 64 bits
unfoldable pub numeral64 : List ℕ → Option (Took ℕ)
numeral64 b = and_then (read_numeral b) (λ k r. cond (fits64 k) (took k r) none)

abbrev pub Numbered : List ℕ → Option (Took ℕ) → Maybe Number → Type 0
Numbered s o None = o ≡ none
Numbered s o (Some n) = (n.end ≤ length s) × (o ≡ took n.value (drop n.end s))
