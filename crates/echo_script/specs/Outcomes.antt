-- What the checks with the text behind them answer.
use Rattle.std.specs.Prelude.{ℕ, ◌≡◌, List, Result, Ok, Err}
use Rattle.refusals.specs.declared.EchoError.{EchoError}
use Rattle.refusals.specs.Numbers.{error_number}
use Rattle.echo_bytes.specs.declared.Place.{Place}
use Rattle.echo_bytes.specs.Page.{Page, written}

-- a text that is refused with this number, or written at the page; a refusal leaves the buffer as it may be
abbrev pub After : ℕ → List ℕ → Page → Result Place EchoError → List ℕ → Type 0
After number text p (Ok q) l = (number ≡ 0) × (q ≡ (written p text).place) × (l ≡ (written p text).bytes)
After number text p (Err e) l = error_number e ≡ number

pub record Wrote (number : ℕ) (text : List ℕ) (p : Page) (o : Result Place EchoError) (l : List ℕ) : Type 0 where
  pub told : After number text p o l
