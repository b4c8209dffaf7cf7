-- The claims on reading back at scripts: each speaks of something.
use Rattle.std.specs.Prelude.{ℕ, ◌≤◌, ◌≡◌, refl, List, length, replicate}
use Rattle.std.proofs.Common.{ap, arith}
use Rattle.lists.specs.Bytes.{bytes}
use Rattle.echo_spec.specs.Input.{Problem, nodes_within, column_within, arena_within, within_limits}
use Rattle.echo_spec.specs.Answers.{Answer, echo_ext_answer}
use Rattle.readback.specs.Records.{record_bytes, records_bytes, inputs}
use Rattle.readback.specs.ReadAnswers.{all_fit, sizes_of, limits_passed, rebuilt_refusal, read_as, read_from, read_script_answer}
use Rattle.readback.specs.Examples.{all_read}
use Rattle.readback_theorems.specs.Printables.{ProblemScript}
use Rattle.readback_theorems.specs.Answered.{read-accepted}
use Rattle.claims.specs.ReadClaims.{ReadsInto, no-script, same-script}

-- x + 5 is x
m2 : List ℕ
m2 = bytes "(set-logic QF_BV)\n(declare-const |x| (_ BitVec 8))\n(assert (= (bvadd |x| #b00000101) |x|))\n(check-sat)\n"

-- n elements for each output
room : ℕ → Problem
room n =
    let l : List ℕ = replicate n 7 in
    record {
      nodes = replicate 68 7;
      bits = l;
      side = l;
      roots = l;
      names = l;
      name_start = l;
      name_len = l;
      var_node = l;
      var_width = l;
      anames = l;
      aname_start = l;
      aname_len = l;
      index_width = l;
      value_width = l;
      fnames = l;
      fname_start = l;
      fname_len = l;
      func_width = l;
    }

-- it is read into eight elements each, and not into seven
m2-read : ReadsInto m2 (room 8)
unfolding
    all_read nodes_within column_within arena_within within_limits record_bytes records_bytes inputs all_fit sizes_of limits_passed rebuilt_refusal read_as read_from
    read_script_answer m2 room
m2-read = refl

m2-no-room : (read_script_answer m2 (room 7)).number ≡ 10
unfolding
    all_read nodes_within column_within arena_within within_limits record_bytes records_bytes inputs all_fit sizes_of limits_passed rebuilt_refusal read_as read_from
    read_script_answer m2 room
m2-no-room = refl

-- what was read prints as many bytes as were read
m2-again : (echo_ext_answer (read-accepted m2 (room 8) m2-read).problem m2).count ≡ length m2
m2-again =
    let l : length m2 ≤ length m2 = omega arith in
    let e = same-script m2 (room 8) m2-read m2 l in
    ap (λ (x : Answer). x.count) e

-- a script with a blank too many is no problem's
blank : List ℕ
blank = bytes "(set-logic QF_BV)\n(check-sat )\n"

blank-is-none : ProblemScript blank → ⊥
unfolding
    all_read nodes_within column_within arena_within within_limits record_bytes records_bytes inputs all_fit sizes_of limits_passed rebuilt_refusal read_as read_from
    read_script_answer room blank
blank-is-none = (no-script blank (room 0)).0 refl
