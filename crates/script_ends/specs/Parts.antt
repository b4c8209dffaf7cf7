-- What is known of the operands of a term that is being placed, and the record of an operator over its operands.
use Rattle.std.specs.Prelude.{ℕ, ◌+◌, ◌-◌, ◌≤◌, ◌<◌, ◌≡◌, ◌&&◌, leb, length, drop, get_or, Some, None, unwrap_or}
use Rattle.std.specs.Prelude as maybe
use Rattle.std.proofs.Math.Path.{refl, ap, sym, subst}
use Rattle.std.proofs.Common.{◌∙◌, ◌⊎◌, inl, inr, arith}
use mathlib.Core.List.{List, [], ◌∷◌, ◌++◌, map}
use Rattle.std.proofs.Math.Option.{Option, some}
use Rattle.std.proofs.Math.Dec.{T, ltb, leb→le, ltb→lt}
use Rattle.std.proofs.lemmas.List.{length-map}
use Rattle.echo_spec.specs.Shapes.{Shape, binary, rotation, extraction, concat, extension, ite, unary, shape_of}
use Rattle.lists.specs.Tests.{and_0, and-1}
use Rattle.echo_spec.specs.Input.{Node}
use Rattle.echo_spec.specs.TreeSorts.{TreeSort, bits, proper, width_of, rule_of, rule_for}
use Rattle.echo_spec.specs.TreeSortLaws.{Met}
use Rattle.blast_kernel.specs.Kinds.{shape_in}
use Rattle.blast_kernel.specs.declared.Binary as binaries
use Rattle.blast_kernel.specs.declared.Extension as extensions
use Rattle.blast_kernel.specs.declared.Rotation as rotations
use Rattle.blast_kernel.specs.declared.Unary as unaries
use Rattle.blast_kernel.specs.declared.Shape as code
use Rattle.blast_kernel.specs.declared.Shape.TheVariants as codes
use Rattle.readback.specs.Rebuild.{fields, node_with}
use Rattle.rebuilt.specs.Known.{have-eq}
use Rattle.place_laws.specs.Widths.{result_width, first_width, second_width, few-operands}
use Rattle.script_ends.specs.declared.Seen.{Seen}

-- the shape of kind k, from that of the code
pub shape-at : (k : ℕ) {s r : code.Shape} → shape_in s ≡ shape_of k → s ≡ r → shape_of k ≡ shape_in r
shape-at k q e = sym q ∙ ap shape_in e

-- only a rotation is one
pub no-rotation : (k : ℕ) (s : code.Shape) → shape_in s ≡ shape_of k → ((o : rotations.Rotation) → s ≡ codes.Rotation o → ⊥) → shape_of k ≡ rotation → ⊥
no-rotation k s q f e = apart s f (q ∙ e)
  where
    apart : (r : code.Shape) → ((o : rotations.Rotation) → r ≡ codes.Rotation o → ⊥) → shape_in r ≡ rotation → ⊥
    apart codes.Var g h = cc
    apart codes.Const g h = cc
    apart (codes.Binary o) g h = cc
    apart (codes.Rotation o) g h = g o refl
    apart codes.Extraction g h = cc
    apart codes.Concat g h = cc
    apart (codes.Extension o) g h = cc
    apart codes.Ite g h = cc
    apart (codes.Comparison o) g h = cc
    apart codes.Negation g h = cc
    apart (codes.Connective o) g h = cc
    apart (codes.Unary o) g h = cc
    apart codes.Select g h = cc
    apart codes.Call g h = cc
    apart codes.Unknown g h = cc

-- ---------------------------------------------------------------- widths

-- the width of the first of some operands
abbrev pub width_seen : List (Option TreeSort) → maybe.Option ℕ
width_seen [] = None
width_seen (o ∷ os) = Some (width_of o)

-- the widths of the first two operands, as far as there were so many
pub record SeenOf (v : Seen) (os : List (Option TreeSort)) : Type 0 where
  pub first : v.first ≡ width_seen os
  pub second : v.second ≡ width_seen (drop 1 os)

pub seen-first-width : (os : List (Option TreeSort)) → unwrap_or (width_seen os) 0 ≡ first_width os
seen-first-width [] = refl
seen-first-width (o ∷ os) = refl

pub seen-second-width : (os : List (Option TreeSort)) → unwrap_or (width_seen (drop 1 os)) 0 ≡ second_width os
seen-second-width [] = refl
seen-second-width (o ∷ []) = refl
seen-second-width (o ∷ q ∷ os) = refl

-- one operand more
abbrev pub OneMore : Seen → ℕ → Seen → Type 0
OneMore v w r = (os : List (Option TreeSort)) (o : Option TreeSort) → SeenOf v os → w ≡ width_of o → SeenOf r (os ++ (o ∷ []))

pub seen_first : (v : Seen) (w : ℕ) → v.first ≡ None → OneMore v w (record { first = Some w; second = v.second })
seen_first v w z [] o h e = record { first = ap Some e; second = h.second }
seen_first v w z (x ∷ os) o h e = absurd (let f : ◌≡◌ {A = maybe.Option ℕ} None (Some (width_of x)) = sym z ∙ h.first in cc)

pub seen-second : (v : Seen) (w : ℕ) → (v.first ≡ None → ⊥) → v.second ≡ None → OneMore v w (record { first = v.first; second = Some w })
seen-second v w y z [] o h e = absurd (y h.first)
seen-second v w y z (x ∷ []) o h e = record { first = h.first; second = ap Some e }
seen-second v w y z (x ∷ q ∷ os) o h e = absurd (let f : ◌≡◌ {A = maybe.Option ℕ} None (Some (width_of q)) = sym z ∙ h.second in cc)

pub seen_more : (v : Seen) (w : ℕ) → (v.first ≡ None → ⊥) → (v.second ≡ None → ⊥) → OneMore v w v
seen_more v w y z [] o h e = absurd (y h.first)
seen_more v w y z (x ∷ []) o h e = absurd (z h.second)
seen_more v w y z (x ∷ q ∷ os) o h e = record { first = h.first; second = h.second }

-- ---------------------------------------------------------------- the width of an operator

module _ (k i j m n : ℕ) where
  -- at a shape
  pub width-at : (h : Shape) → shape_of k ≡ h → result_width h i j m n ≡ result_width (shape_of k) i j m n
  width-at h e = ap (λ (s : Shape). result_width s i j m n) (sym e)

  pub binary-width : shape_of k ≡ binary → m ≡ result_width (shape_of k) i j m n
  unfolding rule_of
  binary-width e = width-at binary e

  pub rotation-width : shape_of k ≡ rotation → m ≡ result_width (shape_of k) i j m n
  unfolding rule_of
  rotation-width e = width-at rotation e

  pub extraction-width : shape_of k ≡ extraction → i - j + 1 ≡ result_width (shape_of k) i j m n
  unfolding rule_of
  extraction-width e = width-at extraction e

  pub concat-width : shape_of k ≡ concat → m + n ≡ result_width (shape_of k) i j m n
  unfolding rule_of
  concat-width e = width-at concat e

  pub extension-width : shape_of k ≡ extension → m + i ≡ result_width (shape_of k) i j m n
  unfolding rule_of
  extension-width e = width-at extension e

  pub ite-width : shape_of k ≡ ite → n ≡ result_width (shape_of k) i j m n
  unfolding rule_of
  ite-width e = width-at ite e

  pub unary-width : shape_of k ≡ unary → m ≡ result_width (shape_of k) i j m n
  unfolding rule_of
  unary-width e = width-at unary e

  -- a vector of the first operand's width
  pub same-width : (s : code.Shape) → shape_in s ≡ shape_of k → ((o : binaries.Binary) × (s ≡ codes.Binary o)) ⊎ (((o : rotations.Rotation) × (s ≡ codes.Rotation o)) ⊎ ((o : unaries.Unary) × (s ≡ codes.Unary o))) → m ≡ result_width (shape_of k) i j m n
  same-width s q (inl (o, e)) = binary-width (sym q ∙ ap shape_in e)
  same-width s q (inr (inl (o, e))) = rotation-width (sym q ∙ ap shape_in e)
  same-width s q (inr (inr (o, e))) = unary-width (sym q ∙ ap shape_in e)

  -- every other shape gives a Bool, or nothing
  bool-width : (s : code.Shape) → ((o : binaries.Binary) → s ≡ codes.Binary o → ⊥) → ((o : rotations.Rotation) → s ≡ codes.Rotation o → ⊥) → (s ≡ codes.Extraction → ⊥) → (s ≡ codes.Concat → ⊥) → ((o : extensions.Extension) → s ≡ codes.Extension o → ⊥) → (s ≡ codes.Ite → ⊥) → ((o : unaries.Unary) → s ≡ codes.Unary o → ⊥)
      → result_width (shape_in s) i j m n ≡ 0
  unfolding rule_of
  bool-width codes.Var a b c d e f g = refl
  bool-width codes.Const a b c d e f g = refl
  bool-width (codes.Binary o) a b c d e f g = absurd (a o refl)
  bool-width (codes.Rotation o) a b c d e f g = absurd (b o refl)
  bool-width codes.Extraction a b c d e f g = absurd (c refl)
  bool-width codes.Concat a b c d e f g = absurd (d refl)
  bool-width (codes.Extension o) a b c d e f g = absurd (e o refl)
  bool-width codes.Ite a b c d e f g = absurd (f refl)
  bool-width (codes.Comparison o) a b c d e f g = refl
  bool-width codes.Negation a b c d e f g = refl
  bool-width (codes.Connective o) a b c d e f g = refl
  bool-width (codes.Unary o) a b c d e f g = absurd (g o refl)
  bool-width codes.Select a b c d e f g = refl
  bool-width codes.Call a b c d e f g = refl
  bool-width codes.Unknown a b c d e f g = refl

  pub other_width : (s : code.Shape) → shape_in s ≡ shape_of k → ((o : binaries.Binary) → s ≡ codes.Binary o → ⊥) → ((o : rotations.Rotation) → s ≡ codes.Rotation o → ⊥) → (s ≡ codes.Extraction → ⊥) → (s ≡ codes.Concat → ⊥) → ((o : extensions.Extension) → s ≡ codes.Extension o → ⊥) → (s ≡ codes.Ite → ⊥) → ((o : unaries.Unary) → s ≡ codes.Unary o → ⊥)
      → 0 ≡ result_width (shape_of k) i j m n
  other_width s q a b c d e f g = sym (bool-width s a b c d e f g) ∙ ap (λ (h : Shape). result_width h i j m n) q

  -- the numbers fit
  pub extraction-fits : shape_of k ≡ extraction → T (rule_of (shape_of k) i j m n).condition → (j ≤ i) × (i < m)
  unfolding rule_of
  extraction-fits e h =
      let h' : T (leb j i && ltb i m) = subst (λ (s : Shape). T (rule_of s i j m n).condition) e h in
      (leb→le j i (and_0 (leb j i) (ltb i m) h'), ltb→lt i m (and-1 (leb j i) (ltb i m) h'))

  pub concat-fits : shape_of k ≡ concat → T (proper (rule_of (shape_of k) i j m n).result) → m + n ≤ 18446744073709551615
  unfolding rule_of
  concat-fits e h =
      let h' : T (proper (bits (m + n))) = subst (λ (s : Shape). T (proper (rule_of s i j m n).result)) e h in
      leb→le (m + n) 18446744073709551615 (and-1 (ltb 0 (m + n)) _ h')

  pub extension-fits : shape_of k ≡ extension → T (proper (rule_of (shape_of k) i j m n).result) → m + i ≤ 18446744073709551615
  unfolding rule_of
  extension-fits e h =
      let h' : T (proper (bits (m + i))) = subst (λ (s : Shape). T (proper (rule_of s i j m n).result)) e h in
      leb→le (m + i) 18446744073709551615 (and-1 (ltb 0 (m + i)) _ h')

-- ---------------------------------------------------------------- records

-- what the record of an operator is made of: its numerals, its operands' nodes and the node of its amount
pub record Made (k i j x y z amount : ℕ) (ks xs ms : List ℕ) : Type 0 where
  pub operands : List (Option TreeSort)
  pub sort : TreeSort
  pub met : Met (shape_of k) ks operands sort
  pub count : length xs ≡ length operands
  pub first-numeral : i ≡ get_or ks 0 0
  pub second-numeral : j ≡ get_or ks 1 0
  pub first : x ≡ get_or xs 0 0
  pub second : y ≡ get_or xs 1 0
  pub third : z ≡ get_or xs 2 0
  pub amounts : shape_of k ≡ rotation → ms ≡ amount ∷ []

abbrev pub node : ℕ → ℕ → ℕ → ℕ → Node
node k a b c = record { kind = k; a = a; b = b; c = c; d = 0 }

one-element : (xs : List ℕ) → length xs ≡ 1 → xs ≡ get_or xs 0 0 ∷ []
one-element [] e = absurd (omega arith)
one-element (x ∷ []) e = refl
one-element (x ∷ y ∷ xs) e = absurd (omega arith)

no-fourth : (xs : List ℕ) → length xs ≤ 3 → get_or xs 3 0 ≡ 0
no-fourth [] e = refl
no-fourth (x ∷ []) e = refl
no-fourth (x ∷ y ∷ []) e = refl
no-fourth (x ∷ y ∷ z ∷ []) e = refl
no-fourth (x ∷ y ∷ z ∷ w ∷ xs) e = absurd (omega arith)

-- no other shape has anything but its operands in its record
plain-fields : (s : code.Shape) (ks xs ms : List ℕ) → ((o : rotations.Rotation) → s ≡ codes.Rotation o → ⊥) → (s ≡ codes.Extraction → ⊥) → ((o : extensions.Extension) → s ≡ codes.Extension o → ⊥) → fields (shape_in s) ks xs ms ≡ xs
unfolding fields
plain-fields codes.Var ks xs ms p q r = refl
plain-fields codes.Const ks xs ms p q r = refl
plain-fields (codes.Binary o) ks xs ms p q r = refl
plain-fields (codes.Rotation o) ks xs ms p q r = absurd (p o refl)
plain-fields codes.Extraction ks xs ms p q r = absurd (q refl)
plain-fields codes.Concat ks xs ms p q r = refl
plain-fields (codes.Extension o) ks xs ms p q r = absurd (r o refl)
plain-fields codes.Ite ks xs ms p q r = refl
plain-fields (codes.Comparison o) ks xs ms p q r = refl
plain-fields codes.Negation ks xs ms p q r = refl
plain-fields (codes.Connective o) ks xs ms p q r = refl
plain-fields (codes.Unary o) ks xs ms p q r = refl
plain-fields codes.Select ks xs ms p q r = refl
plain-fields codes.Call ks xs ms p q r = refl
plain-fields codes.Unknown ks xs ms p q r = refl

module _ (k i j x y z amount : ℕ) (ks xs ms : List ℕ) (m : Made k i j x y z amount ks xs ms) where
  abbrev Record : Node → Type 0
  Record n = node_with k (fields (shape_of k) ks xs ms) ≡ n

  -- how many operands there are, by the rule of the shape
  counted : (h : Shape) → shape_of k ≡ h → length xs ≡ length (rule_for h ks m.operands).operands
  counted h e =
      let q : m.operands ≡ map some (rule_for (shape_of k) ks m.operands).operands = have-eq m.operands (rule_for (shape_of k) ks m.operands).operands m.met.operands in
      m.count ∙ ap length q ∙ length-map {B = Option TreeSort} (rule_for (shape_of k) ks m.operands).operands some ∙ ap (λ (s : Shape). length (rule_for s ks m.operands).operands) e

  numerals-are : (h : Shape) → shape_of k ≡ h → (rule_for h ks m.operands).numerals ≡ ks
  numerals-are h e = subst (λ (s : Shape). (rule_for s ks m.operands).numerals ≡ ks) e m.met.numerals

  at-shape : (h : Shape) (n : Node) → shape_of k ≡ h → node_with k (fields h ks xs ms) ≡ n → Record n
  at-shape h n e f = ap (λ (s : Shape). node_with k (fields s ks xs ms)) e ∙ f

  pub rotation-record : shape_of k ≡ rotation → Record (node k x amount 0)
  unfolding fields rule_of
  rotation-record e =
      let a : xs ≡ x ∷ [] = one-element xs (counted rotation e) ∙ ap (λ (w : ℕ). w ∷ []) (sym m.first) in
      at-shape rotation (node k x amount 0) e (λ t. node_with k (a t ++ m.amounts e t))

  pub extraction-record : shape_of k ≡ extraction → Record (node k i j x)
  unfolding fields rule_of
  extraction-record e =
      let a : xs ≡ x ∷ [] = one-element xs (counted extraction e) ∙ ap (λ (w : ℕ). w ∷ []) (sym m.first) in
      let b : ks ≡ i ∷ j ∷ [] = sym (numerals-are extraction e) ∙ (λ t. sym m.first-numeral t ∷ sym m.second-numeral t ∷ []) in
      at-shape extraction (node k i j x) e (λ t. node_with k (b t ++ a t))

  pub extension-record : shape_of k ≡ extension → Record (node k x i 0)
  unfolding fields rule_of
  extension-record e =
      let a : xs ≡ x ∷ [] = one-element xs (counted extension e) ∙ ap (λ (w : ℕ). w ∷ []) (sym m.first) in
      let b : ks ≡ i ∷ [] = sym (numerals-are extension e) ∙ ap (λ (w : ℕ). w ∷ []) (sym m.first-numeral) in
      at-shape extension (node k x i 0) e (λ t. node_with k (a t ++ b t))

  pub plain-record : (s : code.Shape) → shape_in s ≡ shape_of k → ((o : rotations.Rotation) → s ≡ codes.Rotation o → ⊥) → (s ≡ codes.Extraction → ⊥) → ((o : extensions.Extension) → s ≡ codes.Extension o → ⊥) → Record (node k x y z)
  plain-record s e p q r =
      let l : length xs ≤ 3 = subst (λ (n : ℕ). n ≤ 3) (sym (counted (shape_of k) refl)) (few-operands (shape_of k) (get_or ks 0 0) (get_or ks 1 0) (first_width m.operands) (second_width m.operands)) in
      at-shape (shape_in s) (node k x y z) (sym e) (ap (node_with k) (plain-fields s ks xs ms p q r)
      ∙ (λ t. record { kind = k; a = sym m.first t; b = sym m.second t; c = sym m.third t; d = no-fourth xs l t }))
