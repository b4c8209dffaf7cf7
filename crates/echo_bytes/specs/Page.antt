-- A place in a lent buffer, and what writing a piece of text there makes of the two.
use Rattle.std.specs.Prelude.{ℕ, ◌+◌, ◌-◌, ◌^◌, min, List, ◌++◌, length, take, drop}
use Rattle.echo_bytes.specs.declared.Place.{Place}

-- a place, and the bytes of the buffer that it is a place in
pub record Page : Type 0 where
  pub place : Place
  pub bytes : List ℕ

abbrev pub page : Place → List ℕ → Page
page p o = record { place = p; bytes = o }

-- nothing is written yet
abbrev pub start : Place
start = record { at = 0; need = 0 }

-- the sum of two lengths, held at the largest `usize`
abbrev pub saturated : ℕ → ℕ → ℕ
saturated n k = min (n + k) (2 ^ 64 - 1)

-- k bytes of the piece fit and are stored, and its whole length is counted; past the end of the buffer nothing fits
unfoldable pub written : Page → List ℕ → Page
written p bs =
    let o : List ℕ = p.bytes in
    let at : ℕ = p.place.at in
    let k : ℕ = min (length bs) (length o - at) in
    page (record { at = at + k; need = saturated p.place.need (length bs) }) (take at o ++ take k bs ++ drop (at + k) o)

-- a place q in the rest of a buffer from p on, as a place in the whole: what was written there follows what was written before
abbrev pub after : Place → Place → Place
after p q = record { at = p.at + q.at; need = saturated p.need q.need }
