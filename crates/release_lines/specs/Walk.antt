-- The walk from line to line: what the parts of a line are known by.
use Rattle.std.specs.Prelude.{Option as Maybe, Some, None, ℕ, ◌+◌, ◌-◌, ◌≤◌, ◌<◌, ◌≡◌, refl, Bool, not, length, take, drop}
use Rattle.std.proofs.Math.Path.{ap, sym}
use Rattle.std.proofs.Common.{◌∙◌, subst, arith, eq-eqb, length-append, length-drop, drop-drop}
use mathlib.Core.List.{List, [], ◌∷◌, ◌++◌, append_assoc}
use Rattle.std.proofs.Math.Option.{none}
use Rattle.std.proofs.Math.Dec.{T}
use Rattle.std.proofs.Math.ListN.{get_or}
use Rattle.std.proofs.Math.Seq.{get_or-drop, take-append_seam}
use Rattle.lists.specs.Bytes.{bytes}
use Rattle.lists.specs.Tests.{true→T, by-test}
use Rattle.echo_spec.specs.Render.{quoted, texts}
use Rattle.readback.specs.Reader.{Took, took, up_to, name_read}
use Rattle.theorems.specs.ScriptLines.{Ends}
use Rattle.reader_laws.specs.TermsRead.{Fails, up-to, read_name}
use Rattle.reader_laws.specs.TermsStrict.{impossible, took-both}
use Rattle.script_tokens.specs.Reached.{between, Stretch, NameTo, ends_name}
use Rattle.script_names.specs.Laws.{between-length}
use Rattle.releases.specs.Release.{Meaning, a_variable, an_array, a_function, Declared}
use Rattle.script_decls.specs.declared.Line.{Line}
use Rattle.release_lines.specs.Lines.{word_text, meaning_text, line_text, ends_line, LineIs, DeclaredAt, NextLine}
use Rattle.release_lines.specs.Texts.{meaning-ends, no-feed}

-- ---------------------------------------------------------------- stretches

-- a stretch up to a byte that is known
pub stretch-known : (p : ℕ → Bool) (s : List ℕ) (q e : ℕ) (w : List ℕ) (c : ℕ) (r : List ℕ) → Stretch p s q e → drop q s ≡ w ++ (c ∷ r) → Fails p w → T (p c)
    → (between s q e ≡ w) × (drop e s ≡ c ∷ r)
stretch-known p s q e w c r st t h b =
    let u : ◌≡◌ {A = Took (List ℕ)} (record { value = between s q e; rest = drop e s }) (record { value = w; rest = c ∷ r }) = sym st.read ∙ ap (up_to p) t ∙ up-to p w (c ∷ r) h b in
    (ap (λ (x : Took (List ℕ)). x.value) u, ap (λ (x : Took (List ℕ)). x.rest) u)

-- one byte further
pub further-on : (s : List ℕ) (e c : ℕ) (r : List ℕ) → drop e s ≡ c ∷ r → (e < length s) × (drop (e + 1) s ≡ r)
further-on s e c r t =
    let l = length-drop e s in
    let m = ap length t in
    (omega (arith, l, m), sym (drop-drop 1 e s) ∙ ap (drop 1) t)

-- a part of the bytes that ends with one more byte
pub part-more : (s : List ℕ) (f d : ℕ) (w : List ℕ) (c : ℕ) (r : List ℕ) → f ≤ d → d < length s → between s f d ≡ w → drop f s ≡ (w ++ (c ∷ [])) ++ r → between s f (d + 1) ≡ w ++ (c ∷ [])
part-more s f d w c r l m b t =
    let n : length w ≡ d - f = sym (ap length b) ∙ between-length s f d l (omega arith) in
    let k = length-append w (c ∷ []) in
    let z : d + 1 - f ≡ length (w ++ (c ∷ [])) = omega (arith, n, k) in
    (λ i. take (z i) (t i)) ∙ take-append_seam (w ++ (c ∷ [])) r

-- ---------------------------------------------------------------- the first line

regroup : (w n m t r : List ℕ) → ((w ++ ((124 ∷ (n ++ (124 ∷ []))) ++ m)) ++ t) ++ r ≡ w ++ (124 ∷ (n ++ (124 ∷ (m ++ (t ++ r)))))
regroup w n m t r = simp append_assoc

word-bars : (m : Meaning) → Fails ends_name (word_text m)
unfolding word_text bytes
word-bars (a_variable w) = by-test (λ c. not (ends_name c)) (bytes "(declare-const ") tt
word-bars (an_array i v) = by-test (λ c. not (ends_name c)) (bytes "(declare-const ") tt
word-bars (a_function ws w) = by-test (λ c. not (ends_name c)) (bytes "(declare-fun ") tt

word-second : (m : Meaning) (r : List ℕ) → get_or (word_text m ++ r) 1 0 ≡ 100
unfolding word_text bytes
word-second (a_variable w) r = refl
word-second (an_array i v) r = refl
word-second (a_function ws w) r = refl

word-long : (m : Meaning) → 2 ≤ length (word_text m)
unfolding word_text bytes
word-long (a_variable w) = omega arith
word-long (an_array i v) = omega arith
word-long (a_function ws w) = omega arith

module _ (s : List ℕ) (q : ℕ) (x : Declared) (xs : List Declared) (h : DeclaredAt s q (x ∷ xs)) where
  -- what follows the line, its meaning, its name
  after : List ℕ
  after = texts line_text xs ++ h.rest

  opened : drop q s ≡ word_text x.meaning ++ (124 ∷ (x.name ++ (124 ∷ (meaning_text x.meaning ++ after))))
  unfolding texts line_text quoted bytes after
  opened = h.text ∙ regroup (word_text x.meaning) x.name (meaning_text x.meaning) (texts line_text xs) h.rest

  pub not_short : length s - q < 2 → ⊥
  not_short l =
      let a = length-append (word_text x.meaning) (124 ∷ (x.name ++ (124 ∷ (meaning_text x.meaning ++ after)))) in
      omega (arith, l, a, ap length opened, length-drop q s, word-long x.meaning)

  pub second-byte : get_or s (q + 1) 0 ≡ 100
  second-byte = sym (get_or-drop q s 1 0) ∙ ap (λ (l : List ℕ). get_or l 1 0) opened ∙ word-second x.meaning _

  module _ (b : ℕ) (st : Stretch ends_name s q b) where
    at-bar : drop b s ≡ 124 ∷ (x.name ++ (124 ∷ (meaning_text x.meaning ++ after)))
    at-bar = (stretch-known ends_name s q b (word_text x.meaning) 124 _ st opened (word-bars x.meaning) tt).1

    pub has-bar : length s ≤ b → ⊥
    has-bar l = let f = further-on s b 124 _ at-bar in omega (arith, f.0, l)

    at_name : drop (b + 1) s ≡ x.name ++ (124 ∷ (meaning_text x.meaning ++ after))
    at_name = (further-on s b 124 _ at-bar).1

    name-read : name_read (drop (b + 1) s) ≡ took x.name (meaning_text x.meaning ++ after)
    name-read = ap name_read at_name ∙ read_name x.name h.plain.0 _

    pub has-name : (r : Maybe ℕ) → NameTo s (b + 1) (name_read (drop (b + 1) s)) r → r ≡ None → ⊥
    has-name r k e =
        let n : name_read (drop (b + 1) s) ≡ none = subst (NameTo s (b + 1) (name_read (drop (b + 1) s))) e k in
        impossible (sym n ∙ name-read)

    module _ (r : Maybe ℕ) (f : ℕ) (k : NameTo s (b + 1) (name_read (drop (b + 1) s)) r) (e : r ≡ Some f) where
      to : NameTo s (b + 1) (name_read (drop (b + 1) s)) (Some f)
      to = subst (NameTo s (b + 1) (name_read (drop (b + 1) s))) e k

      both : (between s (b + 1) (f - 1) ≡ x.name) × (drop f s ≡ meaning_text x.meaning ++ after)
      both = took-both (between s (b + 1) (f - 1)) x.name (drop f s) _ (sym to.2 ∙ name-read)

      ends : Ends (meaning_text x.meaning)
      ends = meaning-ends x.meaning

      feed-text : drop f s ≡ ends.line ++ (10 ∷ after)
      feed-text = both.1 ∙ ap (λ (l : List ℕ). l ++ after) ends.text ∙ append_assoc ends.line (10 ∷ []) after

      module _ (d : ℕ) (sd : Stretch ends_line s f d) where
        at-feed : (between s f d ≡ ends.line) × (drop d s ≡ 10 ∷ after)
        at-feed = stretch-known ends_line s f d ends.line 10 after sd feed-text (no-feed ends.line ends.shown) tt

        pub has-feed : length s ≤ d → ⊥
        has-feed l = let g = further-on s d 10 after at-feed.1 in omega (arith, g.0, l)

        pub line-is : (q < d + 1) × LineIs s (b + 1) f (d + 1) x × DeclaredAt s (d + 1) xs
        unfolding after
        line-is =
            let g = further-on s d 10 after at-feed.1 in
            let m : meaning_text x.meaning ≡ ends.line ++ (10 ∷ []) = ends.text in (
              omega (arith, st.low, to.0, sd.low),
              record {
                line = record { inside = omega (arith, to.0, to.1); rest = after; text = at_name; plain = h.plain.0 };
                named = record { low = to.0; high = to.1; read = to.2 };
                name = both.0;
                low = omega (arith, sd.low);
                high = omega (arith, g.0);
                meaning = part-more s f d ends.line 10 after sd.low g.0 at-feed.0 (both.1 ∙ ap (λ (l : List ℕ). l ++ after) m) ∙ sym m;
              },
              record { inside = omega (arith, g.0); rest = h.rest; text = g.1; ends = h.ends; plain = h.plain.1 },
            )

-- ---------------------------------------------------------------- as the code has it

module _ (s : List ℕ) (q : ℕ) where
  pub no_line : ((x : Declared) (xs : List Declared) → DeclaredAt s q (x ∷ xs) → ⊥) → (xs : List Declared) → DeclaredAt s q xs → NextLine s q xs None
  no_line f [] h = tt
  no_line f (x ∷ xs) h = f x xs h

  -- where the second byte is that of a declaration there is one
  pub some-line : (l : Line) → get_or s (q + 1) 0 ≡ 100 → ((x : Declared) (xs : List Declared) → DeclaredAt s q (x ∷ xs) → (q < l.end) × LineIs s l.name l.name_end l.end x × DeclaredAt s l.end xs)
      → (xs : List Declared) → DeclaredAt s q xs → NextLine s q xs (Some l)
  unfolding texts
  some-line l g k [] h =
      let z : get_or h.rest 1 0 ≡ 100 = ap (λ (l : List ℕ). get_or l 1 0) (sym h.text) ∙ get_or-drop q s 1 0 ∙ g in
      absurd (subst T h.ends (true→T (eq-eqb (get_or h.rest 1 0) 100 z)))
  some-line l g k (x ∷ xs) h = k x xs h

pub name-inside : (s : List ℕ) (a : ℕ) (r : Maybe ℕ) {f : ℕ} → NameTo s a (name_read (drop a s)) r → r ≡ Some f → f ≤ length s
name-inside s a r {f} k e = let t : NameTo s a (name_read (drop a s)) (Some f) = subst (NameTo s a (name_read (drop a s))) e k in t.1
