-- A problem whose nodes are decoded, as the printer's inputs: the printer sees the same query, where a record can hold each node.
use Rattle.std.specs.Prelude.{ℕ, zero, suc, ◌+◌, ◌*◌, ◌/◌, ◌%◌, ◌≤◌, ◌<◌, ◌≡◌, refl, true, false, ◌&&◌, T, eqb, length, get_or}
use Rattle.std.proofs.Math.Path.{ap}
use Rattle.std.proofs.Common.{sym, ◌∙◌, subst, arith, leb→le, length-append, get_or-append-add}
use mathlib.Core.List.{List, [], ◌∷◌, ◌++◌}
use Rattle.std.proofs.Math.Bool.{Bool}
use Rattle.std.proofs.Math.Dec.{leb}
use Rattle.lists.specs.Tests.{every, and_0, and-1, and_T}
use Rattle.lists.specs.Build.{tabulate}
use Rattle.echo_spec.specs.Input.{Problem, Node, word32, node_at, nodes_of, node_encoded, encoded, encodable, Dag, dag_of, Query, query_of}
use Rattle.readback.specs.Records.{record_bytes, records_bytes, fits32, holdable, inputs}

-- ---------------------------------------------------------------- records

word_back : (n : ℕ) → n ≤ 4294967295 → n % 256 + 256 * (n / 256 % 256) + 65536 * (n / 65536 % 256) + 16777216 * (n / 16777216) ≡ n
word_back n h = omega arith

length-nodes : (ns : List Node) → length (records_bytes ns) ≡ 17 * length ns
unfolding records_bytes record_bytes
length-nodes [] = refl
length-nodes (n ∷ ns) =
    let a = length-nodes ns in
    let b = length-append (record_bytes n) (records_bytes ns) in
    omega arith

-- the record at the front
front : (n : Node) → T (holdable n) → (rest : List ℕ) → node_at (record_bytes n ++ rest) 0 ≡ n
unfolding node_at record_bytes word32
front n h rest =
    let h₁ = and-1 (leb n.a 4294967295) _ h in
    let h₂ = and-1 (leb n.b 4294967295) _ h₁ in
    let a = word_back n.a (leb→le n.a 4294967295 (and_0 (leb n.a 4294967295) _ h)) in
    let b = word_back n.b (leb→le n.b 4294967295 (and_0 (leb n.b 4294967295) _ h₁)) in
    let c = word_back n.c (leb→le n.c 4294967295 (and_0 (leb n.c 4294967295) _ h₂)) in
    let e = word_back n.d (leb→le n.d 4294967295 (and-1 (leb n.c 4294967295) _ h₂)) in
    λ i. record { kind = n.kind; a = a i; b = b i; c = c i; d = e i }

-- a record past one that is 17 bytes long
get_or-past : (pre rest : List ℕ) → length pre ≡ 17 → (i k : ℕ) → get_or (pre ++ rest) (17 * suc i + k) 0 ≡ get_or rest (17 * i + k) 0
get_or-past pre rest e i k =
    let z : 17 * suc i + k ≡ length pre + (17 * i + k) = omega arith in
    rw z (get_or-append-add pre rest (17 * i + k) 0)

word-past : (pre rest : List ℕ) → length pre ≡ 17 → (i k : ℕ) → word32 (pre ++ rest) (17 * suc i + k) ≡ word32 rest (17 * i + k)
unfolding word32
word-past pre rest e i k =
    let z₁ : 17 * suc i + k + 1 ≡ 17 * suc i + (k + 1) = omega arith in
    let z₂ : 17 * suc i + k + 2 ≡ 17 * suc i + (k + 2) = omega arith in
    let z₃ : 17 * suc i + k + 3 ≡ 17 * suc i + (k + 3) = omega arith in
    let y₁ : 17 * i + k + 1 ≡ 17 * i + (k + 1) = omega arith in
    let y₂ : 17 * i + k + 2 ≡ 17 * i + (k + 2) = omega arith in
    let y₃ : 17 * i + k + 3 ≡ 17 * i + (k + 3) = omega arith in
    rw (z₁, z₂, z₃, y₁, y₂, y₃, get_or-past pre rest e i k, get_or-past pre rest e i (k + 1), get_or-past pre rest e i (k + 2), get_or-past pre rest e i (k + 3))

past : (pre rest : List ℕ) → length pre ≡ 17 → (i : ℕ) → node_at (pre ++ rest) (suc i) ≡ node_at rest i
unfolding node_at
past pre rest e i =
    let z : 17 * suc i + 0 ≡ 17 * suc i = omega arith in
    let y : 17 * i + 0 ≡ 17 * i = omega arith in
    let k : get_or (pre ++ rest) (17 * suc i) 0 ≡ get_or rest (17 * i) 0 = rw (z, y) at (get_or-past pre rest e i 0) in
    let a = word-past pre rest e i 1 in
    let b = word-past pre rest e i 5 in
    let c = word-past pre rest e i 9 in
    let d = word-past pre rest e i 13 in
    λ j. record { kind = k j; a = a j; b = b j; c = c j; d = d j }

tabulate-same : {A : Type 0} (n : ℕ) (f g : ℕ → A) → ((i : ℕ) → f i ≡ g i) → tabulate n f ≡ tabulate n g
tabulate-same zero f g h = refl
tabulate-same (suc n) f g h =
    let a = h 0 in
    let b = tabulate-same n (λ i. f (suc i)) (λ i. g (suc i)) (λ i. h (suc i)) in
    λ j. a j ∷ b j

record-long : (n : Node) → length (record_bytes n) ≡ 17
unfolding record_bytes
record-long n = refl

all_back : (ns : List Node) → T (every holdable ns) → tabulate (length ns) (node_at (records_bytes ns)) ≡ ns
unfolding records_bytes
all_back [] h = refl
all_back (n ∷ ns) h =
    let a = front n (and_0 (holdable n) (every holdable ns) h) (records_bytes ns) in
    let l : length (record_bytes n) ≡ 17 = record-long n in
    let b = tabulate-same (length ns) (λ i. node_at (record_bytes n ++ records_bytes ns) (suc i)) (node_at (records_bytes ns)) (past (record_bytes n) (records_bytes ns) l) in
    let c = all_back ns (and-1 (holdable n) (every holdable ns) h) in
    let q = b ∙ c in
    λ i. a i ∷ q i

pub nodes-back : (ns : List Node) → T (every holdable ns) → nodes_of (records_bytes ns) ≡ ns
unfolding nodes_of
nodes-back ns h =
    let l = length-nodes ns in
    let z : length (records_bytes ns) / 17 ≡ length ns = omega arith in
    rw z (all_back ns h)

-- ---------------------------------------------------------------- what the printer sees

module _ (q : Query) (held : T (every holdable q.dag.nodes)) where
  inputs-dag : dag_of (inputs q) ≡ q.dag
  unfolding dag_of inputs
  inputs-dag = ap (λ (ns : List Node). record {
    nodes = ns;
    side = q.dag.side;
    names = q.dag.names;
    name_start = q.dag.name_start;
    name_len = q.dag.name_len;
    var_node = q.dag.var_node;
    var_width = q.dag.var_width;
    anames = q.dag.anames;
    aname_start = q.dag.aname_start;
    aname_len = q.dag.aname_len;
    array-widths = q.dag.array-widths;
    fnames = q.dag.fnames;
    fname_start = q.dag.fname_start;
    fname_len = q.dag.fname_len;
    func_width = q.dag.func_width;
  }) (nodes-back q.dag.nodes held)

  pub inputs-query : query_of (inputs q) ≡ q
  unfolding inputs
  inputs-query = ap (λ (d : Dag). record { dag = d; bits = q.bits; roots = q.roots }) inputs-dag

  whole-records : T (eqb (length (records_bytes q.dag.nodes) % 17) 0)
  whole-records =
      let l = length-nodes q.dag.nodes in
      let z : length (records_bytes q.dag.nodes) % 17 ≡ 0 = omega arith in
      rw z tt

  pub inputs-encoded : T (encodable q) → T (encoded (inputs q).nodes (inputs q).bits)
  unfolding encoded encodable inputs
  inputs-encoded h =
      let binary : Bool = every (λ b. leb b 1) q.bits in
      and_T (eqb (length (records_bytes q.dag.nodes) % 17) 0) _ whole-records
      (and_T (every node_encoded (nodes_of (records_bytes q.dag.nodes))) binary (rw (nodes-back q.dag.nodes held) (and_0 (every node_encoded q.dag.nodes) _ h))
      (and_0 binary _ (and-1 (every node_encoded q.dag.nodes) _ h)))
