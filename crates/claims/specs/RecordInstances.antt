-- The claims on shorter records at bytes: each speaks of something.
use Rattle.std.specs.Prelude.{ℕ, ◌+◌, ◌*◌, ◌≤◌, ◌≡◌, refl, List, ◌++◌, T, ltb, length, take, replicate}
use Rattle.std.proofs.Common.{subst, lit≤}
use Rattle.lists.specs.Tests.{same, same_refl, by-test}
use Rattle.echo_spec.specs.Input.{nodes_of}
use Rattle.echo_spec.specs.Examples.{lent}
use Rattle.refusals.specs.declared.EchoError.TheVariants.{Room, ShortRecord}
use Rattle.std.specs.Prelude.{Ok, Err}
use Rattle.short_records.specs.Short.{shortened, shorten_answer, lengthened, lengthen_answer}
use Rattle.short_records.specs.Outcomes.{answered}
use Rattle.short_records.specs.RoundTrips.{operands_of}
use Rattle.short_records.specs.Words.{form_of}
use Rattle.short_records.specs.Examples.{computed, old1, new1, old2, new2, old4, new4}
use Rattle.claims.specs.RecordClaims.{
  OldForm,
  NewForm,
  result_over,
  ShortenContract,
  LengthenContract,
  shorten-refuses,
  lengthen-refuses,
  old-new-old,
  new-old-new,
  one-new-form,
  one-old-form,
  new-length,
  never-longer,
  new-words,
  shorten-done,
  lengthen-done,
  back-to-old,
  back-to-new,
  shorten-length,
  same_bytes,
}

-- three records, with one, four and two operands
old : List ℕ
old = old1 ++ (old4 ++ old2)

new : List ℕ
new = new1 ++ (new4 ++ new2)

is-old : OldForm old
unfolding computed old
is-old = refl

is-new : NewForm new
unfolding computed new
is-new = refl

its-new-form : shortened old ≡ new
unfolding computed old new
its-new-form = refl

its-old-form : lengthened new ≡ old
unfolding computed old new
its-old-form = refl

-- ---------------------------------------------------------------- either way round

there_and_back : lengthen_answer new (lent 60) ≡ result_over old (lent 60)
unfolding computed old new
there_and_back = (old-new-old old (lent 31) (lent 60) is-old (lit≤ tt) (lit≤ tt)).1

back-and-there : shorten_answer old (lent 40) ≡ result_over new (lent 40)
unfolding computed old new
back-and-there = (new-old-new new (lent 51) (lent 40) is-new (lit≤ tt) (lit≤ tt)).1

-- the same records in another order
other : List ℕ
other = old4 ++ (old1 ++ old2)

is-other : OldForm other
unfolding computed other
is-other = refl

apart : old ≡ other → ⊥
unfolding same old other
apart e = subst (λ (l : List ℕ). T (same old l)) e (same_refl old)

other-form : shortened old ≡ shortened other → ⊥
other-form e = apart (one-new-form old other is-old is-other e)

other-new : List ℕ
other-new = new4 ++ (new1 ++ new2)

is-other-new : NewForm other-new
unfolding computed other-new
is-other-new = refl

apart-new : new ≡ other-new → ⊥
unfolding same new other-new
apart-new e = subst (λ (l : List ℕ). T (same new l)) e (same_refl new)

other-old-form : lengthened new ≡ lengthened other-new → ⊥
other-old-form e = apart-new (one-old-form new other-new is-new is-other-new e)

-- ---------------------------------------------------------------- the new form

-- three nodes with seven operands
seven : operands_of (nodes_of old) ≡ 7
unfolding computed old
seven = refl

its-length : length new ≡ 3 + 4 * 7
unfolding computed old new
its-length = new-length old

shorter : length new ≤ length old
unfolding computed old new
shorter = never-longer old

its-words : new ≡ form_of (nodes_of old)
unfolding computed old new
its-words = new-words old (by-test (λ b. ltb b 256) old tt)

-- ---------------------------------------------------------------- calls

called : ShortenContract (Ok 31) old (lent 40) (new ++ lent 9)
unfolding computed old new
called = refl

called-back : LengthenContract (Ok 51) new (lent 60) (old ++ lent 9)
unfolding computed old new
called-back = refl

its-bytes : take 31 (new ++ lent 9) ≡ shortened old
its-bytes = (shorten-done old (lent 40) (new ++ lent 9) 31 called).2

its-old-bytes : take 51 (old ++ lent 9) ≡ lengthened new
its-old-bytes = (lengthen-done new (lent 60) (old ++ lent 9) 51 called-back).2

counted : 31 ≡ length (nodes_of old) + 4 * operands_of (nodes_of old)
counted = shorten-length old (lent 40) (new ++ lent 9) 31 called

returned : answered (Ok 51) (old ++ lent 9) ≡ result_over old (lent 60)
unfolding computed old new
returned = back-to-old old (lent 40) (new ++ lent 9) 31 (Ok 51) (lent 60) (old ++ lent 9) called (lit≤ tt) called-back

returned-new : answered (Ok 31) (new ++ lent 9) ≡ result_over new (lent 40)
unfolding computed old new
returned-new = back-to-new new (lent 60) (old ++ lent 9) 51 (Ok 31) (lent 40) (new ++ lent 9) called-back (lit≤ tt) called

same-call : old ≡ old
same-call = same_bytes old (lent 40) (new ++ lent 9) old (lent 40) (new ++ lent 9) 31 31 called called refl

-- refusals: one byte short, either way; a record cut short
short-of-room : ShortenContract (Err Room) old (lent 30) (replicate 30 0)
unfolding computed old
short-of-room = refl

short-of-room-back : LengthenContract (Err Room) new (lent 50) (replicate 50 0)
unfolding computed new
short-of-room-back = refl

cut : LengthenContract (Err ShortRecord) (take 30 new) (lent 60) (replicate 60 0)
unfolding computed new
cut = refl

cleared : shorten_answer (take 50 old) (lent 3) ≡ record { number = 8; count = 0; output = replicate 3 0 }
unfolding computed old
cleared = shorten-refuses (take 50 old) (lent 3) 7 refl

cleared-back : lengthen_answer (take 30 new) (lent 3) ≡ record { number = 16; count = 0; output = replicate 3 0 }
unfolding computed new
cleared-back = lengthen-refuses (take 30 new) (lent 3) 15 refl
