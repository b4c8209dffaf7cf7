-- The line of a declaration as the printer writes it, and the places of its parts in a file.
use Rattle.std.specs.Prelude.{Option, Some, None, ℕ, ◌-◌, ◌≤◌, ◌<◌, ◌≡◌, List, [], ◌∷◌, ◌++◌, Bool, false, eqb, length, drop, get_or}
use Rattle.lists.specs.Bytes.{bytes}
use Rattle.echo_spec.specs.Render.{quoted, sort_text, sorts_text, texts}
use Rattle.reader_laws.specs.TermsRead.{NoBar}
use Rattle.reader_laws.specs.ScriptsRead.{AllOk}
use Rattle.script_tokens.specs.Reached.{between}
use Rattle.script_names.specs.Entries.{Named}
use Rattle.releases.specs.Release.{Meaning, a_variable, an_array, a_function, Declared}
use Rattle.script_decls.specs.declared.Line.{Line}

-- what stands before the name's first bar
unfoldable pub word_text : Meaning → List ℕ
word_text (a_variable w) = bytes "(declare-const "
word_text (an_array i v) = bytes "(declare-const "
word_text (a_function ws w) = bytes "(declare-fun "

-- what stands after the name's last bar, with the line feed
unfoldable pub meaning_text : Meaning → List ℕ
meaning_text (a_variable w) = bytes " " ++ (sort_text w ++ bytes ")\n")
meaning_text (an_array i v) = bytes " (Array " ++ (sort_text i ++ (bytes " " ++ (sort_text v ++ bytes "))\n")))
meaning_text (a_function ws w) = bytes " (" ++ (sorts_text ws ++ (bytes ") " ++ (sort_text w ++ bytes ")\n")))

-- the line of a declaration
unfoldable pub line_text : Declared → List ℕ
line_text x = word_text x.meaning ++ (quoted x.name ++ meaning_text x.meaning)

-- what ends a line
abbrev pub ends_line : ℕ → Bool
ends_line c = eqb c 10

-- the name of x begins at place a, and the rest of its line follows
pub record LineAt (s : List ℕ) (a : ℕ) (x : Declared) : Type 0 where
  pub inside : a ≤ length s
  pub rest : List ℕ
  pub text : drop a s ≡ x.name ++ (124 ∷ (meaning_text x.meaning ++ rest))
  pub plain : NoBar x.name

-- the name of x stands from place a on, up to and with its bar before place f, and its line ends before place e
pub record LineIs (s : List ℕ) (a f e : ℕ) (x : Declared) : Type 0 where
  pub line : LineAt s a x
  pub named : Named s a f
  pub name : between s a (f - 1) ≡ x.name
  pub low : f ≤ e
  pub high : e ≤ length s
  pub meaning : between s f e ≡ meaning_text x.meaning

-- the lines of these declarations stand from place q on, and no other line of a declaration follows
pub record DeclaredAt (s : List ℕ) (q : ℕ) (xs : List Declared) : Type 0 where
  pub inside : q ≤ length s
  pub rest : List ℕ
  pub text : drop q s ≡ texts line_text xs ++ rest
  pub ends : eqb (get_or rest 1 0) 100 ≡ false
  pub plain : AllOk (λ (x : Declared). NoBar x.name) xs

-- the next of the declarations whose lines stand from place q on, or that there is none
abbrev pub NextLine : List ℕ → ℕ → List Declared → Option Line → Type 0
NextLine s q [] None = Unit
NextLine s q [] (Some l) = ⊥
NextLine s q (x ∷ xs) None = ⊥
NextLine s q (x ∷ xs) (Some l) = (q < l.end) × LineIs s l.name l.name_end l.end x × DeclaredAt s l.end xs
