-- The bytes of the lines that are read: after the name of line i stands the rest of the line of entry i.
use Rattle.std.specs.Prelude.{ℕ, zero, suc, ◌+◌, ◌<◌, ◌≡◌, refl, List, [], ◌∷◌, ◌++◌, Bool, true, false, cond, eqb, length, get_or}
use Rattle.std.proofs.Common.{ap, sym, ◌∙◌, subst, arith, eqb→eq}
use Rattle.std.proofs.Math.Option.{Option, none, some}
use Rattle.lists.specs.Bytes.{bytes}
use Rattle.lists.specs.Tests.{true→T}
use Rattle.reading.specs.Trees.{Name, Variable, Array, Function, Declarations}
use Rattle.echo_spec.specs.Input.{largest}
use Rattle.echo_spec.specs.Names.{entry_ok}
use Rattle.readback.specs.Printable.{variable_names_in}
use Rattle.readback.specs.Reader.{Took, took, and_then, expect, name_read}
use Rattle.readback.specs.ScriptReader.{separator}
use Rattle.reader_laws.specs.TermsStrict.{impossible, and-then, took-both, expected}
use Rattle.rebuilt.specs.Built.{no-variable, no-array, no-function, variable_at, array_at, function_at}
use Rattle.script_names.specs.Entries.{after_bar, entry_from}
use Rattle.script_names.specs.Laws.{taken}
use Rattle.script_decls.specs.Lines.{sort_in, sorts_in, variable_tail, array_tail_of, function_tail, LineType, name_in, word_of, tail_of, line_of, checked}
use Rattle.script_decls.specs.Sorts.{pass, pass-word, pass-sort}
use Rattle.script_decls.specs.Going.{word-bar}
use Rattle.script_header.specs.Header.{declared}

-- ---------------------------------------------------------------- no bar after the name

pass-separator : (first : Bool) (b v q : List ℕ) → separator first b ≡ took v q → after_bar b ≡ after_bar q
unfolding separator bytes
pass-separator true b v q e = ap after_bar (took-both {A = List ℕ} [] v b q e).1
pass-separator false b v q e = pass-word (bytes " ") b v q tt e

pass-sorts : (f : ℕ) (first : Bool) (b ws r : List ℕ) → sorts_in f first b ≡ took ws r → after_bar b ≡ after_bar r
unfolding sorts_in
pass-sorts zero first b ws r e = absurd (impossible e)
pass-sorts (suc f) first [] ws r e = absurd (impossible e)
pass-sorts (suc f) first (c ∷ b) ws r e = by_first (eqb c 41) refl e (λ x us z h. pass-sorts f false x us z h)
  where
    by_first : (t : Bool) → eqb c 41 ≡ t → sorts_in (suc f) first (c ∷ b) ≡ took ws r → ((x us z : List ℕ) → sorts_in f false x ≡ took us z → after_bar x ≡ after_bar z) → after_bar (c ∷ b) ≡ after_bar r
    by_first true p e ih =
        let g : took [] b ≡ took ws r = rw (p, sorts_in) at e in
        rw (eqb→eq c 41 (true→T p)) (pass (41 ∷ []) b tt ∙ ap after_bar (took-both {A = List ℕ} [] ws b r g).1)
    by_first false p e ih =
        let g : and_then (separator first (c ∷ b)) (λ _ q. and_then (sort_in largest q) (λ w r. and_then (sorts_in f false r) (λ ws z. took (w ∷ ws) z))) ≡ took ws r = rw (p, sorts_in) at e in
        let (v, q, e₁, g₁) = and-then (separator first (c ∷ b)) _ ws r g in
        let (w, x, e₂, g₂) = and-then (sort_in largest q) _ ws r g₁ in
        let (us, z, e₃, g₃) = and-then (sorts_in f false x) _ ws r g₂ in
        pass-separator first (c ∷ b) v q e₁ ∙ pass-sort largest q w x e₂ ∙ ih x us z e₃ ∙ ap after_bar (took-both (w ∷ us) ws z r g₃).1

-- the rest of a line has the line's name, and no bar
tail_name : (k : ℕ) (n : Name) (u : List ℕ) (x : LineType k) (r : List ℕ) → tail_of k n u ≡ took x r → (name_in k x ≡ n) × (after_bar u ≡ after_bar r)
unfolding variable_tail array_tail_of function_tail bytes
tail_name zero n u x r e =
    let (v₁, b₁, e₁, g₁) = and-then (expect (bytes " ") u) _ x r e in
    let (w, b₂, e₂, g₂) = and-then (sort_in largest b₁) _ x r g₁ in
    let (v₃, b₃, e₃, g₃) = and-then (expect (bytes ")\n") b₂) _ x r g₂ in
    let (m, q) = took-both {A = Variable} (record { name = n; width = w }) x b₃ r g₃ in
    (ap (λ (y : Variable). y.name) (sym m), pass-word (bytes " ") u v₁ b₁ tt e₁ ∙ pass-sort largest b₁ w b₂ e₂ ∙ pass-word (bytes ")\n") b₂ v₃ b₃ tt e₃ ∙ ap after_bar q)
tail_name (suc zero) n u x r e =
    let (v₁, b₁, e₁, g₁) = and-then (expect (bytes " (Array ") u) _ x r e in
    let (i, b₂, e₂, g₂) = and-then (sort_in 65536 b₁) _ x r g₁ in
    let (v₃, b₃, e₃, g₃) = and-then (expect (bytes " ") b₂) _ x r g₂ in
    let (v, b₄, e₄, g₄) = and-then (sort_in 65536 b₃) _ x r g₃ in
    let (v₅, b₅, e₅, g₅) = and-then (expect (bytes "))\n") b₄) _ x r g₄ in
    let (m, q) = took-both {A = Array} (record { name = n; index = i; value = v }) x b₅ r g₅ in (
      ap (λ (y : Array). y.name) (sym m),
      pass-word (bytes " (Array ") u v₁ b₁ tt e₁ ∙ pass-sort 65536 b₁ i b₂ e₂ ∙ pass-word (bytes " ") b₂ v₃ b₃ tt e₃ ∙ pass-sort 65536 b₃ v b₄ e₄
          ∙ pass-word (bytes "))\n") b₄ v₅ b₅ tt e₅ ∙ ap after_bar q,
    )
tail_name (suc (suc k)) n u x r e =
    let (v₁, b₁, e₁, g₁) = and-then (expect (bytes " (") u) _ x r e in
    let (ws, b₂, e₂, g₂) = and-then (sorts_in (suc (length b₁)) true b₁) _ x r g₁ in
    let (v₃, b₃, e₃, g₃) = and-then (expect (bytes " ") b₂) _ x r g₂ in
    let (w, b₄, e₄, g₄) = and-then (sort_in largest b₃) _ x r g₃ in
    let (v₅, b₅, e₅, g₅) = and-then (expect (bytes ")\n") b₄) _ x r g₄ in
    let (m, q) = took-both {A = Function} (record { name = n; arguments = ws; width = w }) x b₅ r g₅ in (
      ap (λ (y : Function). y.name) (sym m),
      pass-word (bytes " (") u v₁ b₁ tt e₁ ∙ pass-sorts (suc (length b₁)) true b₁ ws b₂ e₂ ∙ pass-word (bytes " ") b₂ v₃ b₃ tt e₃ ∙ pass-sort largest b₃ w b₄ e₄
          ∙ pass-word (bytes ")\n") b₄ v₅ b₅ tt e₅ ∙ ap after_bar q,
    )

-- ---------------------------------------------------------------- one line

record LineBytes (k : ℕ) (b : List ℕ) (x : LineType k) (r : List ℕ) : Type 0 where
  pub tail : tail_of k (name_in k x) (after_bar (after_bar b)) ≡ took x r
  pub next : after_bar (after_bar (after_bar b)) ≡ after_bar r

line-bytes : (k : ℕ) (b : List ℕ) (x : LineType k) (r : List ℕ) → line_of k b ≡ took x r → LineBytes k b x r
unfolding line_of
line-bytes k b x r e =
    let (v, q, e₁, g₁) = and-then (expect (word_of k) b) (λ _ q. and_then (name_read q) (λ n r. tail_of k n r)) x r e in
    let (n, u, e₂, g₂) = and-then (name_read q) (λ n r. tail_of k n r) x r g₁ in
    let p : after_bar b ≡ q = ap after_bar (expected (word_of k) b v q e₁) ∙ word-bar k q in
    let m : after_bar (after_bar b) ≡ u = ap after_bar p ∙ (taken q n u e₂).after in
    let (i, j) = tail_name k n u x r g₂ in
    record { tail = (λ a. tail_of k (i a) (m a)) ∙ g₂; next = ap after_bar m ∙ j }

-- ---------------------------------------------------------------- lines one after the other

-- names go on where the first n of them end
entry-on : (n i : ℕ) (b r : List ℕ) → entry_from n b ≡ after_bar r → entry_from (n + i) b ≡ entry_from i r
unfolding entry_from
entry-on n zero b r e = let z : n + 0 ≡ n = omega arith in rw z e
entry-on n (suc i) b r e = let z : n + suc i ≡ suc (n + i) = omega arith in rw z (ap (λ (x : List ℕ). after_bar (after_bar x)) (entry-on n i b r e))

entry_past : (i : ℕ) (b r : List ℕ) → after_bar (after_bar (after_bar b)) ≡ after_bar r → entry_from (suc i) b ≡ entry_from i r
unfolding entry_from
entry_past i b r e = let z : suc i ≡ 1 + i = omega arith in ap (λ (k : ℕ). entry_from k b) z ∙ entry-on 1 i b r e

-- lines xs of one stage, and the bytes after them
pub record Lined (k : ℕ) (b : List ℕ) (xs : List (LineType k)) (r : List ℕ) : Type 0 where
  pub end : entry_from (length xs) b ≡ after_bar r
  pub line : (d : LineType k) (i : ℕ) → i < length xs → (z : List ℕ) × (tail_of k (name_in k (get_or xs i d)) (after_bar (entry_from i b)) ≡ took (get_or xs i d) z)

lined-none : (k : ℕ) (b : List ℕ) → Lined k b [] b
unfolding entry_from
lined-none k b = record { end = refl; line = λ d i l. absurd (omega arith) }

lined-more : (k : ℕ) (b : List ℕ) (x : LineType k) (q : List ℕ) (xs : List (LineType k)) (r : List ℕ) → LineBytes k b x q → Lined k q xs r → Lined k b (x ∷ xs) r
unfolding entry_from
lined-more k b x q xs r h t = record { end = entry_past (length xs) b q h.next ∙ t.end; line = line }
  where
    line : (d : LineType k) (i : ℕ) → i < length (x ∷ xs) → (z : List ℕ) × (tail_of k (name_in k (get_or (x ∷ xs) i d)) (after_bar (entry_from i b)) ≡ took (get_or (x ∷ xs) i d) z)
    line d zero l = (q, h.tail)
    line d (suc i) l =
        let (z, e) = t.line d i (omega arith) in
        (z, ap (λ (u : List ℕ). tail_of k (name_in k (get_or xs i d)) (after_bar u)) (entry_past i b q h.next) ∙ e)

lined : (k f : ℕ) (before : List Name) (b : List ℕ) (xs : List (LineType k)) (r : List ℕ) → checked k f before b ≡ took xs r → Lined k b xs r
unfolding checked
lined k zero before b xs r e = absurd (impossible e)
lined k (suc f) before b xs r e = by-line (line_of k b) refl e (λ before b xs r h. lined k f before b xs r h)
  where
    after : (x : LineType k) (q : List ℕ) → line_of k b ≡ took x q → (t : Bool) → cond t (and_then (checked k f (before ++ (name_in k x ∷ [])) q) (λ xs r. took (x ∷ xs) r)) none ≡ took xs r
        → ((before : List Name) (b : List ℕ) (xs : List (LineType k)) (r : List ℕ) → checked k f before b ≡ took xs r → Lined k b xs r) → Lined k b xs r
    after x q p false g ih = absurd (impossible g)
    after x q p true g ih =
        let (ys, z, e₁, g₁) = and-then (checked k f (before ++ (name_in k x ∷ [])) q) (λ xs r. took (x ∷ xs) r) xs r g in
        let (m, j) = took-both (x ∷ ys) xs z r g₁ in
        subst (λ (u : List ℕ). Lined k b xs u) j (subst (λ (us : List (LineType k)). Lined k b us z) m (lined-more k b x q ys z (line-bytes k b x q p) (ih _ q ys z e₁)))

    by-line : (o : Option (Took (LineType k))) → line_of k b ≡ o → checked k (suc f) before b ≡ took xs r
        → ((before : List Name) (b : List ℕ) (xs : List (LineType k)) (r : List ℕ) → checked k f before b ≡ took xs r → Lined k b xs r) → Lined k b xs r
    by-line none p e ih =
        let g : took [] b ≡ took xs r = rw (p, checked) at e in
        let (m, j) = took-both {A = List (LineType k)} [] xs b r g in
        subst (λ (u : List ℕ). Lined k b xs u) j (subst (λ (us : List (LineType k)). Lined k b us b) m (lined-none k b))
    by-line (some t) p e ih = after t.value t.rest p (entry_ok before (name_in k t.value)) (rw (p, checked) at e) ih

-- ---------------------------------------------------------------- the three stages

-- the rest of each entry's line stands after its name, the names being numbered through the three tables
pub record DeclaredLines (b : List ℕ) (D : Declarations) : Type 0 where
  pub variable : (i : ℕ) → i < length D.variables → (z : List ℕ) × (variable_tail (variable_at D i).name (after_bar (entry_from i b)) ≡ took (variable_at D i) z)
  pub array : (i : ℕ) → i < length D.arrays → (z : List ℕ) × (array_tail_of (array_at D i).name (after_bar (entry_from (length D.variables + i) b)) ≡ took (array_at D i) z)
  pub function : (i : ℕ) → i < length D.functions
      → (z : List ℕ) × (function_tail (function_at D i).name (after_bar (entry_from (length D.variables + length D.arrays + i) b)) ≡ took (function_at D i) z)

three : (b b₁ b₂ b₃ : List ℕ) (vs : List Variable) (rs : List Array) (fs : List Function) → Lined 0 b vs b₁ → Lined 1 b₁ rs b₂ → Lined 2 b₂ fs b₃
    → DeclaredLines b (record { variables = vs; arrays = rs; functions = fs })
three b b₁ b₂ b₃ vs rs fs l m n =
    let second : (entry_from (length vs + length rs) b ≡ after_bar b₂) = entry-on (length vs) (length rs) b b₁ l.end ∙ m.end in
    record {
      variable = λ i h. l.line no-variable i h;
      array = λ i h.
          (let (z, e) = m.line no-array i h in
          (z, ap (λ (u : List ℕ). array_tail_of (get_or rs i no-array).name (after_bar u)) (entry-on (length vs) i b b₁ l.end) ∙ e));
      function = λ i h.
          (let (z, e) = n.line no-function i h in
          (z, ap (λ (u : List ℕ). function_tail (get_or fs i no-function).name (after_bar u)) (entry-on (length vs + length rs) i b b₂ second) ∙ e));
    }

pub declared-lines : (f : ℕ) (b : List ℕ) (D : Declarations) (r : List ℕ) → declared f b ≡ took D r → DeclaredLines b D
unfolding declared
declared-lines f b D r e =
    let (vs, b₁, e₁, g₁) = and-then (checked 0 f [] b) _ D r e in
    let (rs, b₂, e₂, g₂) = and-then (checked 1 f (variable_names_in (record { variables = vs; arrays = []; functions = [] })) b₁) _ D r g₁ in
    let (fs, b₃, e₃, g₃) = and-then (checked 2 f _ b₂) _ D r g₂ in
    let m = (took-both {A = Declarations} (record { variables = vs; arrays = rs; functions = fs }) D b₃ r g₃).0 in
    subst (DeclaredLines b) m (three b b₁ b₂ b₃ vs rs fs (lined 0 f _ b vs b₁ e₁) (lined 1 f _ b₁ rs b₂ e₂) (lined 2 f _ b₂ fs b₃ e₃))
