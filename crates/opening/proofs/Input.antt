-- Refusals 2 to 6 and 1: which test decides, what an input that passes them has, and how few its places are. Each test is one case of
-- `refusal`, and a graph file of a good layout has 36 bytes for each commit (48 where an id has 32).
-- Assumes nothing.
use Rattle.std.specs.Prelude.{None, Option, Some}
use mathlib.Core.Path.{◌≡◌, refl, sym, ap}
use mathlib.Core.Logic.{◌⊎◌, inl, inr}
use Prim.Native.Nat.{ℕ, ◌+◌, ◌*◌, ◌/◌, ◌%◌, ◌<◌, ◌≤◌}
use mathlib.Core.Bool.{Bool, true, false, cond, ◌&&◌, ◌||◌}
use mathlib.Core.List.{List, [], ◌∷◌}
use native.Mathlib.Omega.{arith}
use native.Mathlib.Nat.{mul-zero}
use lib.ListN.{length}
use lib.Dec.{leb, eqb}
use borrow.Author.Tests.{leb-true, eqb-true, le-leb}
use Rattle.hash.proofs.Tests.{by_cases, clash, and_both, or_cases, no-some}
use Rattle.hash.proofs.Widths.{by_kind, ids-fit, fit-ids}
use Rattle.hash.specs.Bytes.{width_of}
use Rattle.object.specs.Header.{parent_size}
use Rattle.odb.specs.Store.{store_is_ok}
use Rattle.hash.specs.declared.Kind.{Kind}
use Rattle.commitgraph.specs.Graph.{hash_version, graph_head, graph_ok, graph_count, row_size}
use Rattle.commitgraph.proofs.LayoutRight.{right}
use Rattle.walk.specs.declared.Refusal.{Refusal}
use Rattle.walk.specs.declared.Refusal.TheVariants.{InputTooLarge, PartialId, CorruptStore, UnknownGraph, CorruptGraph}
use Rattle.walk.specs.State.{is_empty}
use Rattle.walk.specs.Opening.{Input, Lengths, P, list_limit, sizes_ok, whole_ids, refusal, parents_room, room_for, width_in}

-- ---- a zero-length graph

pub empty-yes : (g : List ℕ) → length g ≡ 0 → is_empty g ≡ true
unfolding is_empty
empty-yes [] e = refl
empty-yes (x ∷ g) e = absurd (omega (arith, e))

pub empty-not : (g : List ℕ) → (length g ≡ 0 → ⊥) → is_empty g ≡ false
unfolding is_empty
empty-not [] e = absurd (e refl)
empty-not (x ∷ g) e = refl

-- ---- which test decides

module _ (i : Input) where
  pub by_size : sizes_ok i ≡ false → refusal i ≡ Some InputTooLarge
  unfolding refusal
  by_size a = rw a

  module _ (a : sizes_ok i ≡ true) where
    pub by-lists : whole_ids i ≡ false → refusal i ≡ Some PartialId
    unfolding refusal
    by-lists b = rw (a, b)

    module _ (b : whole_ids i ≡ true) where
      pub by-store : store_is_ok (width_in i) i.store ≡ false → refusal i ≡ Some CorruptStore
      unfolding refusal
      by-store c = rw (a, b, c)

      module _ (c : store_is_ok (width_in i) i.store ≡ true) where
        pub no-graph : is_empty i.graph ≡ true → refusal i ≡ None
        unfolding refusal
        no-graph d = rw (a, b, c, d)

        module _ (d : is_empty i.graph ≡ false) where
          pub by-head : graph_head (hash_version i.settings.kind) i.graph ≡ false → refusal i ≡ Some UnknownGraph
          unfolding refusal
          by-head e = rw (a, b, c, d, e)

          pub by-graph : graph_head (hash_version i.settings.kind) i.graph ≡ true → graph_ok (width_in i) i.graph ≡ false → refusal i ≡ Some CorruptGraph
          unfolding refusal
          by-graph e f = rw (a, b, c, d, e, f)

          pub all-good : graph_head (hash_version i.settings.kind) i.graph ≡ true → graph_ok (width_in i) i.graph ≡ true → refusal i ≡ None
          unfolding refusal
          all-good e f = rw (a, b, c, d, e, f)

-- ---- what an input that passes has

-- all of six tests
six : (a b c d e f : Bool) → a && b && c && d && e && f ≡ true → (a ≡ true) × (b ≡ true) × (c ≡ true) × (d ≡ true) × (e ≡ true) × (f ≡ true)
six a b c d e f h =
    let p = and_both {a = a && b && c && d && e} {b = f} h in
    let q = and_both {a = a && b && c && d} {b = e} p.0 in
    let r = and_both {a = a && b && c} {b = d} q.0 in
    let s = and_both {a = a && b} {b = c} r.0 in
    let t = and_both {a = a} {b = b} s.0 in
    (t.0, t.1, s.1, r.1, q.1, p.1)

pub record Passes (i : Input) : Type 0 where
  pub store-small : length i.store ≤ 16777216
  pub graph-small : length i.graph ≤ 16777216
  pub tips-few : length i.tips ≤ list_limit (width_in i)
  pub hidden-few : length i.hidden ≤ list_limit (width_in i)
  pub excluded-few : length i.excluded ≤ list_limit (width_in i)
  pub tips-whole : length i.tips % width_in i ≡ 0
  pub hidden-whole : length i.hidden % width_in i ≡ 0
  pub excluded-whole : length i.excluded % width_in i ≡ 0
  pub store-good : store_is_ok (width_in i) i.store ≡ true
  pub graph-good : (is_empty i.graph ≡ true) ⊎ (graph_ok (width_in i) i.graph ≡ true)

pick-none : (b : Bool) (n : Option Refusal) (r : Refusal) → cond b n (Some r) ≡ None → (b ≡ true) × (n ≡ None)
pick-none true n r e = (refl, e)
pick-none false n r e = no-some (sym e)

pub passes : (i : Input) → refusal i ≡ None → Passes i
unfolding refusal sizes_ok whole_ids
passes i z =
    let a = pick-none (sizes_ok i) _ InputTooLarge z in
    let b = pick-none (whole_ids i) _ PartialId a.1 in
    let c = pick-none (store_is_ok (width_in i) i.store) _ CorruptStore b.1 in
    let d = pick-none (is_empty i.graph || graph_head (hash_version i.settings.kind) i.graph) _ UnknownGraph c.1 in
    let e = pick-none (is_empty i.graph || graph_ok (width_in i) i.graph) None CorruptGraph d.1 in
    let s = six true (leb (length i.store) 16777216) (leb (length i.graph) 16777216) (leb (length i.tips) (list_limit (width_in i))) (leb (length i.hidden) (list_limit (width_in i)))
    (leb (length i.excluded) (list_limit (width_in i))) a.0 in
    let v = six true true true (eqb (length i.tips % width_in i) 0) (eqb (length i.hidden % width_in i) 0) (eqb (length i.excluded % width_in i) 0) b.0 in
    record {
      store-small = leb-true _ _ s.1;
      graph-small = leb-true _ _ s.2;
      tips-few = leb-true _ _ s.3;
      hidden-few = leb-true _ _ s.4;
      excluded-few = leb-true _ _ s.5;
      tips-whole = eqb-true _ _ v.3;
      hidden-whole = eqb-true _ _ v.4;
      excluded-whole = eqb-true _ _ v.5;
      store-good = c.0;
      graph-good = or_cases {a = is_empty i.graph} {b = graph_ok (width_in i) i.graph} e.0;
    }

-- ---- how few the places are

-- N, of a good layout
no-count : (g : List ℕ) → is_empty g ≡ true → graph_count g ≡ 0
unfolding is_empty graph_count
no-count [] e = refl
no-count (x ∷ g) e = clash refl (sym e)

count_small : (w : ℕ) (g : List ℕ) → (is_empty g ≡ true) ⊎ (graph_ok w g ≡ true) → row_size w * graph_count g ≤ length g
count_small w g (inl e) = omega (arith, ap (λ (n : ℕ). row_size w * n) (no-count g e), mul-zero (row_size w))
count_small w g (inr ok) = omega (arith, (right w g ok).places.rows)

-- 1,024 + 1,024 + ⌊16,777,216/48⌋ + ⌊16,777,216/36⌋, and with ids of 32 bytes less
few_in : (kind : Kind) (t h s g n : ℕ) → t ≤ list_limit (width_of kind) → h ≤ list_limit (width_of kind) → s ≤ 16777216 → g ≤ 16777216 → row_size (width_of kind) * n ≤ g
    → t / width_of kind + h / width_of kind + s / parent_size (width_of kind) + n ≤ 817606
few_in kind t h s g n =
    by_kind (λ w. t ≤ list_limit w → h ≤ list_limit w → s ≤ 16777216 → g ≤ 16777216 → row_size w * n ≤ g → t / w + h / w + s / parent_size w + n ≤ 817606) (λ a b c d e. omega arith)
    (λ a b c d e. omega arith) kind

pub places-few : (i : Input) → refusal i ≡ None → P i ≤ 817606
unfolding P
places-few i z =
    let p = passes i z in
    few_in i.settings.kind (length i.tips) (length i.hidden) (length i.store) (length i.graph) (graph_count i.graph) p.tips-few p.hidden-few p.store-small p.graph-small
    (count_small (width_in i) i.graph p.graph-good)

-- n bytes are so few ids, and so few parent lines
pub ids-few : (kind : Kind) (n : ℕ) → n / width_of kind ≤ n / 20
ids-few kind n = by_kind (λ w. n / w ≤ n / 20) (omega arith) (omega arith) kind

pub lines_few : (kind : Kind) (n : ℕ) → n / parent_size (width_of kind) ≤ n / 48
lines_few kind n = by_kind (λ w. n / parent_size w ≤ n / 48) (omega arith) (omega arith) kind

-- ---- room

-- so many ids stand in n bytes as the quotient says
pub names-fit : (w n p : ℕ) → 0 < w → p ≤ n / w → leb (w * p) n ≡ true
names-fit w n p some_bytes h = le-leb (w * p) n (ids-fit w n p some_bytes h)

pub names-short : (w n p : ℕ) → 0 < w → n / w < p → leb (w * p) n ≡ false
names-short w n p some_bytes h = by_cases (leb (w * p) n) (λ t. absurd (omega (arith, h, fit-ids w n p some_bytes (leb-true (w * p) n t)))) (λ f. f)

pub record Room (w : ℕ) (p : ℕ) (l : Lengths) : Type 0 where
  pub names-room : w * p ≤ l.names
  pub marks-room : p ≤ l.marks
  pub levels-room : p ≤ l.levels
  pub times-room : p ≤ l.times
  pub line-room : 5 * p ≤ l.line
  pub parents-room : parents_room w ≤ l.parents

pub room : (i : Input) (l : Lengths) → room_for i l ≡ true → Room (width_in i) (P i) l
unfolding room_for
room i l e =
    let s = six (leb (width_in i * P i) l.names) (leb (P i) l.marks) (leb (P i) l.levels) (leb (P i) l.times) (leb (5 * P i) l.line)
    (leb (parents_room (width_in i)) l.parents) e in
    record {
      names-room = leb-true _ _ s.0;
      marks-room = leb-true _ _ s.1;
      levels-room = leb-true _ _ s.2;
      times-room = leb-true _ _ s.3;
      line-room = leb-true _ _ s.4;
      parents-room = leb-true _ _ s.5;
    }
