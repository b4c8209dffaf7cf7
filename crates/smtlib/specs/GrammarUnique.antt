-- Tokens are those of at most one script.
use Rattle.std.specs.Prelude.{ℕ, ◌≡◌, refl, List, [], ◌∷◌, ◌++◌, drop}
use Rattle.std.proofs.Common.{ap, sym, append_assoc, arith}
use Rattle.lists.specs.Bytes.{bytes}
use Rattle.smtlib.specs.Lexicon.{Token, open⁽, close⁾, reserved}
use Rattle.smtlib.specs.Grammar.{
  Sort,
  bit_vec,
  array,
  sort_tokens,
  sorts_tokens,
  Operator,
  plain,
  indexed,
  numerals_tokens,
  operator_tokens,
  Term,
  literal,
  identifier,
  application,
  binding,
  Terms,
  none,
  more,
  term_tokens,
  terms_tokens,
  Declaration,
  declare_const,
  declare_fun,
  declaration_tokens,
  declarations_tokens,
  assertions_tokens,
  Script,
  script_tokens,
}

-- ---------------------------------------------------------------- sorts

sort-unique : (s s' : Sort) (r r' : List Token) → sort_tokens s ++ r ≡ sort_tokens s' ++ r' → (s ≡ s') × (r ≡ r')
unfolding sort_tokens
sort-unique (bit_vec n) (bit_vec n') r r' e = (cc, cc)
sort-unique (bit_vec n) (array s' t') r r' e = (cc, cc)
sort-unique (array s t) (bit_vec n') r r' e = (cc, cc)
sort-unique (array s t) (array s' t') r r' e =
    let f = sort-unique s s' (sort_tokens t ++ (close⁾ ∷ r)) (sort_tokens t' ++ (close⁾ ∷ r')) (simp append_assoc at (ap (drop 2) e)) in
    let g = sort-unique t t' (close⁾ ∷ r) (close⁾ ∷ r') f.1 in
    let same_s = f.0 in
    let same-t = g.0 in
    let same-r = g.1 in
    (cc, cc)

sort-no-close : (s : Sort) (r x : List Token) → sort_tokens s ++ r ≡ close⁾ ∷ x → ⊥
unfolding sort_tokens
sort-no-close (bit_vec n) r x e = let z : ◌≡◌ {A = ℕ} 0 1 = cc in omega arith
sort-no-close (array s t) r x e = let z : ◌≡◌ {A = ℕ} 0 1 = cc in omega arith

sorts-unique : (ss ss' : List Sort) (r r' : List Token) → sorts_tokens ss ++ (close⁾ ∷ r) ≡ sorts_tokens ss' ++ (close⁾ ∷ r') → (ss ≡ ss') × (r ≡ r')
unfolding sorts_tokens
sorts-unique [] [] r r' e = (refl, cc)
sorts-unique [] (s' ∷ ss') r r' e = absurd (sort-no-close s' (sorts_tokens ss' ++ (close⁾ ∷ r')) r (simp append_assoc at (sym e)))
sorts-unique (s ∷ ss) [] r r' e = absurd (sort-no-close s (sorts_tokens ss ++ (close⁾ ∷ r)) r' (simp append_assoc at e))
sorts-unique (s ∷ ss) (s' ∷ ss') r r' e =
    let f = sort-unique s s' (sorts_tokens ss ++ (close⁾ ∷ r)) (sorts_tokens ss' ++ (close⁾ ∷ r')) (simp append_assoc at e) in
    let g = sorts-unique ss ss' r r' f.1 in
    let same_s = f.0 in
    let same_ss = g.0 in
    (cc, g.1)

-- ---------------------------------------------------------------- terms

numerals-unique : (ks ks' : List ℕ) (r r' : List Token) → numerals_tokens ks ++ (close⁾ ∷ r) ≡ numerals_tokens ks' ++ (close⁾ ∷ r')
    → (ks ≡ ks') × (r ≡ r')
unfolding numerals_tokens
numerals-unique [] [] r r' e = (refl, cc)
numerals-unique [] (k' ∷ ks') r r' e = (cc, cc)
numerals-unique (k ∷ ks) [] r r' e = (cc, cc)
numerals-unique (k ∷ ks) (k' ∷ ks') r r' e =
    let f = numerals-unique ks ks' r r' (cc) in
    let same-ks = f.0 in
    (cc, f.1)

operator-unique : (o o' : Operator) (r r' : List Token) → operator_tokens o ++ r ≡ operator_tokens o' ++ r' → (o ≡ o') × (r ≡ r')
unfolding operator_tokens
operator-unique (plain n) (plain n') r r' e = (cc, cc)
operator-unique (plain n) (indexed n' k' ks') r r' e = (cc, cc)
operator-unique (indexed n k ks) (plain n') r r' e = (cc, cc)
operator-unique (indexed n k ks) (indexed n' k' ks') r r' e =
    let f = numerals-unique ks ks' r r' (simp append_assoc at (ap (drop 4) e)) in
    let same-ks = f.0 in
    (cc, f.1)

term-no-close : (t : Term) (r x : List Token) → term_tokens t ++ r ≡ close⁾ ∷ x → ⊥
unfolding term_tokens
term-no-close (literal ds) r x e = let z : ◌≡◌ {A = ℕ} 0 1 = cc in omega arith
term-no-close (identifier n) r x e = let z : ◌≡◌ {A = ℕ} 0 1 = cc in omega arith
term-no-close (application o t ts) r x e = let z : ◌≡◌ {A = ℕ} 0 1 = cc in omega arith
term-no-close (binding n t b) r x e = let z : ◌≡◌ {A = ℕ} 0 1 = cc in omega arith

-- an operator begins with a symbol or a parenthesis, not with a reserved word
operator-no-word : (w : List ℕ) (o : Operator) (r x : List Token) → operator_tokens o ++ r ≡ reserved w ∷ x → ⊥
unfolding operator_tokens
operator-no-word w (plain n) r x e = let z : ◌≡◌ {A = ℕ} 0 1 = cc in omega arith
operator-no-word w (indexed n k ks) r x e = let z : ◌≡◌ {A = ℕ} 0 1 = cc in omega arith

mutual
  unfolding term_tokens

  pub term-unique : (t t' : Term) (r r' : List Token) → term_tokens t ++ r ≡ term_tokens t' ++ r' → (t ≡ t') × (r ≡ r')
  term-unique (literal ds) (literal ds') r r' e = (cc, cc)
  term-unique (literal ds) (identifier n') r r' e = (cc, cc)
  term-unique (literal ds) (application o' t' ts') r r' e = (cc, cc)
  term-unique (identifier n) (literal ds') r r' e = (cc, cc)
  term-unique (identifier n) (identifier n') r r' e = (cc, cc)
  term-unique (identifier n) (application o' t' ts') r r' e = (cc, cc)
  term-unique (application o t ts) (literal ds') r r' e = (cc, cc)
  term-unique (application o t ts) (identifier n') r r' e = (cc, cc)
  term-unique (application o t ts) (application o' t' ts') r r' e =
      let f = operator-unique o o' (term_tokens t ++ (terms_tokens ts ++ (close⁾ ∷ r))) (term_tokens t' ++ (terms_tokens ts' ++ (close⁾ ∷ r')))
      (simp append_assoc at (ap (drop 1) e)) in
      let g = term-unique t t' (terms_tokens ts ++ (close⁾ ∷ r)) (terms_tokens ts' ++ (close⁾ ∷ r')) f.1 in
      let h = terms-unique ts ts' r r' g.1 in
      let same-o = f.0 in
      let same-t = g.0 in
      let same-ts = h.0 in
      (cc, h.1)
  term-unique (literal ds) (binding n' t' b') r r' e = (cc, cc)
  term-unique (identifier n) (binding n' t' b') r r' e = (cc, cc)
  term-unique (binding n t b) (literal ds') r r' e = (cc, cc)
  term-unique (binding n t b) (identifier n') r r' e = (cc, cc)
  term-unique (application o t ts) (binding n' t' b') r r' e =
      absurd (operator-no-word _ o _ _ (simp append_assoc at (ap (drop 1) e)))
  term-unique (binding n t b) (application o' t' ts') r r' e =
      absurd (operator-no-word _ o' _ _ (sym (simp append_assoc at (ap (drop 1) e))))
  term-unique (binding n t b) (binding n' t' b') r r' e =
      let f = term-unique t t' (close⁾ ∷ close⁾ ∷ (term_tokens b ++ (close⁾ ∷ r))) (close⁾ ∷ close⁾ ∷ (term_tokens b' ++ (close⁾ ∷ r')))
      (simp append_assoc at (ap (drop 5) e)) in
      let g = term-unique b b' (close⁾ ∷ r) (close⁾ ∷ r') (ap (drop 2) f.1) in
      let same-t = f.0 in
      let same-b = g.0 in
      let same-r = g.1 in
      (cc, cc)

  terms-unique : (ts ts' : Terms) (r r' : List Token) → terms_tokens ts ++ (close⁾ ∷ r) ≡ terms_tokens ts' ++ (close⁾ ∷ r') → (ts ≡ ts') × (r ≡ r')
  terms-unique none none r r' e = (refl, cc)
  terms-unique none (more t' ts') r r' e = absurd (term-no-close t' (terms_tokens ts' ++ (close⁾ ∷ r')) r (simp append_assoc at (sym e)))
  terms-unique (more t ts) none r r' e = absurd (term-no-close t (terms_tokens ts ++ (close⁾ ∷ r)) r' (simp append_assoc at e))
  terms-unique (more t ts) (more t' ts') r r' e =
      let f = term-unique t t' (terms_tokens ts ++ (close⁾ ∷ r)) (terms_tokens ts' ++ (close⁾ ∷ r')) (simp append_assoc at e) in
      let g = terms-unique ts ts' r r' f.1 in
      let same-t = f.0 in
      let same-ts = g.0 in
      (cc, g.1)

-- ---------------------------------------------------------------- commands

declaration-unique : (d d' : Declaration) (r r' : List Token) → declaration_tokens d ++ r ≡ declaration_tokens d' ++ r' → (d ≡ d') × (r ≡ r')
unfolding declaration_tokens bytes
declaration-unique (declare_const n s) (declare_const n' s') r r' e =
    let f = sort-unique s s' (close⁾ ∷ r) (close⁾ ∷ r') (simp append_assoc at (ap (drop 3) e)) in
    let same_s = f.0 in
    let same-r = f.1 in
    (cc, cc)
declaration-unique (declare_const n s) (declare_fun n' ss' s') r r' e = (cc, cc)
declaration-unique (declare_fun n ss s) (declare_const n' s') r r' e = (cc, cc)
declaration-unique (declare_fun n ss s) (declare_fun n' ss' s') r r' e =
    let f = sorts-unique ss ss' (sort_tokens s ++ (close⁾ ∷ r)) (sort_tokens s' ++ (close⁾ ∷ r')) (simp append_assoc at (ap (drop 4) e)) in
    let g = sort-unique s s' (close⁾ ∷ r) (close⁾ ∷ r') f.1 in
    let same_ss = f.0 in
    let same_s = g.0 in
    let same-r = g.1 in
    (cc, cc)

-- the tokens behind the declarations
end : Terms → List Token
end ts = assertions_tokens ts ++ (open⁽ ∷ reserved (bytes "check-sat") ∷ close⁾ ∷ [])

end-unique : (ts ts' : Terms) → end ts ≡ end ts' → ts ≡ ts'
unfolding end assertions_tokens bytes
end-unique none none e = refl
end-unique none (more t' ts') e = cc
end-unique (more t ts) none e = cc
end-unique (more t ts) (more t' ts') e =
    let f = term-unique t t' (close⁾ ∷ end ts) (close⁾ ∷ end ts') (simp append_assoc at (ap (drop 2) e)) in
    let same-t = f.0 in
    let later = f.1 in
    let same-ts = end-unique ts ts' (cc) in
    cc

declaration-no-end : (d : Declaration) (ts : Terms) (r : List Token) → declaration_tokens d ++ r ≡ end ts → ⊥
unfolding declaration_tokens assertions_tokens end bytes
declaration-no-end (declare_const n s) none r e = let z : ◌≡◌ {A = ℕ} 0 1 = cc in omega arith
declaration-no-end (declare_const n s) (more t ts) r e = let z : ◌≡◌ {A = ℕ} 0 1 = cc in omega arith
declaration-no-end (declare_fun n ss s) none r e = let z : ◌≡◌ {A = ℕ} 0 1 = cc in omega arith
declaration-no-end (declare_fun n ss s) (more t ts) r e = let z : ◌≡◌ {A = ℕ} 0 1 = cc in omega arith

declarations-unique : (ds ds' : List Declaration) (ts ts' : Terms) → declarations_tokens ds ++ end ts ≡ declarations_tokens ds' ++ end ts'
    → (ds ≡ ds') × (ts ≡ ts')
unfolding declarations_tokens
declarations-unique [] [] ts ts' e = (refl, end-unique ts ts' e)
declarations-unique [] (d' ∷ ds') ts ts' e = absurd (declaration-no-end d' ts (declarations_tokens ds' ++ end ts') (sym (simp append_assoc at e)))
declarations-unique (d ∷ ds) [] ts ts' e = absurd (declaration-no-end d ts' (declarations_tokens ds ++ end ts) (simp append_assoc at e))
declarations-unique (d ∷ ds) (d' ∷ ds') ts ts' e =
    let f = declaration-unique d d' (declarations_tokens ds ++ end ts) (declarations_tokens ds' ++ end ts') (simp append_assoc at e) in
    let g = declarations-unique ds ds' ts ts' f.1 in
    let same-d = f.0 in
    let same-ds = g.0 in
    (cc, g.1)

-- ---------------------------------------------------------------- scripts

pub script-unique : (s s' : Script) → script_tokens s ≡ script_tokens s' → s ≡ s'
unfolding script_tokens end
script-unique s s' e =
    let same-logic : s.logic ≡ s'.logic = cc in
    let f = declarations-unique s.declarations s'.declarations s.assertions s'.assertions (cc) in
    λ i. record { logic = same-logic i; declarations = f.0 i; assertions = f.1 i }
