-- The new form in terms of nodes: the kind byte of each, and then the operands that its kind has, 32 bits each, the least significant byte
-- first. For bytes it is the form of `Short`, which is in terms of records and asks nothing of the numbers in them. Assumes nothing.
use Rattle.std.specs.Prelude.{ℕ, zero, suc, ◌+◌, ◌*◌, ◌/◌, ◌%◌, ◌≤◌, ◌<◌, ◌≡◌, refl, List, [], ◌∷◌, ◌++◌, ltb, length, take, drop}
use Rattle.std.proofs.Common.{ap, sym, ◌∙◌, arith, ltb→lt, length-drop, take-add}
use Rattle.lists.specs.Tests.{All}
use Rattle.lists.specs.Build.{tabulate}
use Rattle.echo_spec.specs.Shapes.{shape_of, operand_count}
use Rattle.echo_spec.specs.Input.{Node, shape, word32, node_at, nodes_of}
use Rattle.short_records.specs.Short.{short_form, shortened}
use Rattle.short_records.specs.RecordLaws.{at-most-four, nodes-drop, words, operand-words, four-words, four-first}

-- every number is a byte
abbrev pub Bytes : List ℕ → Type 0
Bytes s = All (λ b. ltb b 256) s

abbrev pub word_bytes : ℕ → List ℕ
word_bytes x = x % 256 ∷ x / 256 % 256 ∷ x / 65536 % 256 ∷ x / 16777216 % 256 ∷ []

abbrev pub words_bytes : List ℕ → List ℕ
words_bytes [] = []
words_bytes (x ∷ xs) = word_bytes x ++ words_bytes xs

abbrev pub record_of : Node → List ℕ
record_of n = n.kind ∷ words_bytes (take (operand_count (shape n)) (n.a ∷ n.b ∷ n.c ∷ n.d ∷ []))

abbrev pub form_of : List Node → List ℕ
form_of [] = []
form_of (n ∷ ns) = record_of n ++ form_of ns

-- ---------------------------------------------------------------- laws

bytes_drop : (n : ℕ) (s : List ℕ) → Bytes s → Bytes (drop n s)
bytes_drop zero s h = h
bytes_drop (suc n) [] h = tt
bytes_drop (suc n) (x ∷ s) h = bytes_drop n s h.1

-- a number by its lowest byte, and by what stands above one, two and three bytes
low : (a q : ℕ) → a < 256 → (a + 256 * q) % 256 ≡ a
low a q l = omega arith

high1 : (a q : ℕ) → a < 256 → (a + 256 * q) / 256 ≡ q
high1 a q l = omega arith

high2 : (a q : ℕ) → a < 65536 → (a + 65536 * q) / 65536 ≡ q
high2 a q l = omega arith

high3 : (a q : ℕ) → a < 16777216 → (a + 16777216 * q) / 16777216 ≡ q
high3 a q l = omega arith

sum1 : (b c d : ℕ) → b + 256 * c + 65536 * d ≡ b + 256 * (c + 256 * d)
sum1 b c d = omega arith

-- four bytes, as a number and back
four_bytes : (a b c d : ℕ) (s : List ℕ) → Bytes (a ∷ b ∷ c ∷ d ∷ s) → word_bytes (word32 (a ∷ b ∷ c ∷ d ∷ s) 0) ≡ a ∷ b ∷ c ∷ d ∷ []
unfolding word32
four_bytes a b c d s h =
    let la : a < 256 = ltb→lt a 256 h.0 in
    let lb : b < 256 = ltb→lt b 256 h.1.0 in
    let lc : c < 256 = ltb→lt c 256 h.1.1.0 in
    let ld : d < 256 = ltb→lt d 256 h.1.1.1.0 in
    let x : ℕ = a + 256 * b + 65536 * c + 16777216 * d in
    let q1 : x ≡ a + 256 * (b + 256 * c + 65536 * d) = omega arith in
    let q2 : x ≡ (a + 256 * b) + 65536 * (c + 256 * d) = omega arith in
    let q3 : x ≡ (a + 256 * b + 65536 * c) + 16777216 * d = omega arith in
    let ea : x % 256 ≡ a = ap (λ (y : ℕ). y % 256) q1 ∙ low a (b + 256 * c + 65536 * d) la in
    let eb : x / 256 % 256 ≡ b = ap (λ (y : ℕ). y / 256 % 256) q1 ∙ ap (λ (y : ℕ). y % 256) (high1 a (b + 256 * c + 65536 * d) la)
    ∙ ap (λ (y : ℕ). y % 256) (sum1 b c d) ∙ low b (c + 256 * d) lb in
    let ec : x / 65536 % 256 ≡ c = ap (λ (y : ℕ). y / 65536 % 256) q2 ∙ ap (λ (y : ℕ). y % 256) (high2 (a + 256 * b) (c + 256 * d) (omega arith)) ∙ low c d lc in
    let ed : x / 16777216 % 256 ≡ d = ap (λ (y : ℕ). y / 16777216 % 256) q3 ∙ ap (λ (y : ℕ). y % 256) (high3 (a + 256 * b + 65536 * c) d (omega arith)) ∙ omega arith in
    λ i. ea i ∷ eb i ∷ ec i ∷ ed i ∷ []

first_word : (s : List ℕ) → 4 ≤ length s → Bytes s → word_bytes (word32 s 0) ≡ take 4 s
first_word s l h =
    let f = four-first s l in
    rw f.is (four_bytes f.a f.b f.c f.d f.rest (rw f.is at h))

-- the first c of n words
words-bytes : (c n : ℕ) (s : List ℕ) → c ≤ n → 4 * c ≤ length s → Bytes s → words_bytes (take c (words n s)) ≡ take (4 * c) s
unfolding words
words-bytes zero n s h l b = refl
words-bytes (suc c) zero s h l b = absurd (omega arith)
words-bytes (suc c) (suc n) s h l b =
    let e : 4 * suc c ≡ 4 + 4 * c = omega arith in
    let f = first_word s (omega arith) b in
    let r = words-bytes c n (drop 4 s) (omega arith) (omega (arith, length-drop 4 s)) (bytes_drop 4 s b) in
    (λ i. f i ++ r i) ∙ sym (take-add 4 (4 * c) s) ∙ ap (λ (m : ℕ). take m s) (sym e)

first-record : (k : ℕ) (s : List ℕ) → 16 ≤ length s → Bytes s → k ∷ take (4 * operand_count (shape_of k)) s ≡ record_of (node_at (k ∷ s) 0)
first-record k s l b =
    let c : ℕ = operand_count (shape_of k) in
    let m : c ≤ 4 = at-most-four (shape_of k) in
    rw (operand-words k s, ← four-words s) (ap (λ (y : List ℕ). k ∷ y) (sym (words-bytes c 4 s m (omega arith) b)))

form-words : (n : ℕ) (s : List ℕ) → 17 * n ≤ length s → Bytes s → short_form n s ≡ form_of (tabulate n (node_at s))
unfolding short_form
form-words zero s l b = refl
form-words (suc n) [] l b = absurd (omega arith)
form-words (suc n) (k ∷ s) l b =
    let r = form-words n (drop 16 s) (omega (arith, length-drop 16 s)) (bytes_drop 16 s b.1) in
    let d : form_of (tabulate n (node_at (drop 16 s))) ≡ form_of (tabulate n (λ i. node_at (k ∷ s) (suc i))) = ap form_of (sym (nodes-drop n (k ∷ s))) in
    λ i. first-record k s (omega arith) b.1 i ++ (r ∙ d) i

pub shortened-words : (old : List ℕ) → Bytes old → shortened old ≡ form_of (nodes_of old)
unfolding nodes_of
shortened-words old b = form-words (length old / 17) old (omega arith) b
