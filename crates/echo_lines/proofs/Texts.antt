-- Texts by the pieces that are written one after the other. Assumes nothing.
use Rattle.std.proofs.Common.{◌≡◌, refl, ap, sym, ◌∙◌, ℕ, zero, suc, ◌+◌, ◌-◌, ◌≤◌, ◌<◌, List, [], ◌∷◌, ◌++◌, append_assoc, append-nil, map, length, take, drop, get_or, arith}
use Rattle.std.proofs.Math.Seq.{take-length}
use Rattle.std.proofs.lemmas.List.{map_more, take_more}
use Rattle.lists.specs.Bytes.{bytes}
use Rattle.echo_spec.specs.Widths.{width_at}
use Rattle.echo_spec.specs.Render.{decimal, numerals_text, operator_text, sort_text, sorts_text}
use Rattle.echo_lines.specs.Heads.{call_head}
use Rattle.echo_lines.specs.Lines.{logic_name}

-- ---------------------------------------------------------------- heads

numerals-push : (ks : List ℕ) (k : ℕ) → numerals_text ks ++ (bytes " " ++ decimal k) ≡ numerals_text (ks ++ (k ∷ []))
unfolding bytes numerals_text
numerals-push [] k = sym (append-nil (32 ∷ decimal k))
numerals-push (j ∷ ks) k = simp append_assoc (ap (λ (t : List ℕ). 32 ∷ (decimal j ++ t)) (numerals-push ks k))

-- the numerals so far, and one more
pub numerals-more : (s ks : List ℕ) (i : ℕ) → i < length ks → (s ++ numerals_text (take i ks)) ++ (bytes " " ++ decimal (get_or ks i 0)) ≡ s ++ numerals_text (take (i + 1) ks)
numerals-more s ks i h =
    append_assoc s (numerals_text (take i ks)) (bytes " " ++ decimal (get_or ks i 0))
    ∙ ap (λ (t : List ℕ). s ++ t) (numerals-push (take i ks) (get_or ks i 0) ∙ ap numerals_text (sym (take_more ks i 0 h)))

-- a symbol with all of its numerals
pub operator-closed : (s ks : List ℕ) (i : ℕ) → 0 < length ks → i ≡ length ks
    → ((bytes "((_ " ++ s) ++ numerals_text (take i ks)) ++ bytes ")" ≡ bytes "(" ++ operator_text s ks
unfolding bytes operator_text
operator-closed s [] i h e = absurd (omega arith)
operator-closed s (k ∷ ks) i h e =
    rw (e, take-length (k ∷ ks)) (ap (λ (t : List ℕ). 40 ∷ 40 ∷ 95 ∷ 32 ∷ t) (append_assoc s (numerals_text (k ∷ ks)) (41 ∷ [])))

pub call-bare : (n : ℕ) (name : List ℕ) → n ≡ 0 → name ≡ call_head n name
unfolding call_head
call-bare zero name e = refl
call-bare (suc n) name e = absurd (omega arith)

pub call-opened : (n : ℕ) (name : List ℕ) → (n ≡ 0 → ⊥) → bytes "(" ++ name ≡ call_head n name
unfolding call_head
call-opened zero name e = absurd (e refl)
call-opened (suc n) name e = refl

-- ---------------------------------------------------------------- argument sorts

sorts-more : (v : ℕ) (vs : List ℕ) (w : ℕ) → sorts_text (v ∷ vs) ++ (bytes " " ++ sort_text w) ≡ sorts_text (v ∷ (vs ++ (w ∷ [])))
unfolding sorts_text
sorts-more v [] w = refl
sorts-more v (u ∷ vs) w = simp append_assoc (ap (λ (t : List ℕ). sort_text v ++ (bytes " " ++ t)) (sorts-more u vs w))

-- after the first argument's sort, that of one of the others more, of the width that was looked up
pub argument-more : (ws : List ℕ) (x : ℕ) (others : List ℕ) (i : ℕ) → i < length others → (w : ℕ) → w ≡ width_at ws (get_or others i 0)
    → sorts_text (map (width_at ws) (x ∷ take i others)) ++ (bytes " " ++ sort_text w) ≡ sorts_text (map (width_at ws) (x ∷ take (i + 1) others))
argument-more ws x others i l w e =
    sorts-more (width_at ws x) (map (width_at ws) (take i others)) w
    ∙ ap (λ (vs : List ℕ). sorts_text (width_at ws x ∷ vs)) (rw (e, map_more (width_at ws) others i 0 l) refl)

-- the first argument's sort and those of all others
pub arguments-all : (ws xs : List ℕ) (i : ℕ) → 1 ≤ length xs → i ≡ length (take (length xs - 1) (drop 1 xs))
    → sorts_text (map (width_at ws) (get_or xs 0 0 ∷ take i (take (length xs - 1) (drop 1 xs)))) ≡ sorts_text (map (width_at ws) xs)
arguments-all ws [] i h e = absurd (omega arith)
arguments-all ws (x ∷ xs) i h e =
    let n : length (x ∷ xs) - 1 ≡ length xs = omega arith in
    rw (e, n, take-length xs, take-length xs) refl

pub no-others : (xs : List ℕ) → length xs < 1 → xs ≡ []
no-others [] h = refl
no-others (x ∷ xs) h = absurd (omega arith)

-- ---------------------------------------------------------------- the logic

pub logic-functions : (arrays functions : ℕ) → 0 < functions → bytes "QF_AUFBV" ≡ logic_name arrays functions
unfolding logic_name
logic-functions arrays zero f = absurd (omega arith)
logic-functions arrays (suc n) f = refl

pub logic-arrays : (arrays functions : ℕ) → functions ≤ 0 → 0 < arrays → bytes "QF_ABV" ≡ logic_name arrays functions
unfolding logic_name
logic-arrays zero functions f a = absurd (omega arith)
logic-arrays (suc m) zero f a = refl
logic-arrays (suc m) (suc n) f a = absurd (omega arith)

pub logic-bits : (arrays functions : ℕ) → functions ≤ 0 → arrays ≤ 0 → bytes "QF_BV" ≡ logic_name arrays functions
unfolding logic_name
logic-bits zero zero f a = refl
logic-bits (suc m) zero f a = absurd (omega arith)
logic-bits arrays (suc n) f a = absurd (omega arith)
