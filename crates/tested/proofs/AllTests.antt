-- The tests in memory that is free to be used: emptied, it has room for all that can be met, and what the pass decides over the line is what the
-- definition decides over its own list. Assumes nothing.
use Rattle.std.specs.Prelude.{None, Option, Result, Some}
use Rattle.walk.specs.declared.Refusal.{Refusal}
use mathlib.Core.Path.{◌≡◌, sym, ◌∙◌, ap, subst}
use mathlib.Core.Logic.{inl, ⊎_elim}
use Prim.Native.Nat.{ℕ, ◌*◌, ◌≤◌, ◌<◌}
use mathlib.Core.Bool.{Bool, true, false}
use mathlib.Core.List.{List, [], ◌++◌}
use native.Mathlib.Omega.{arith}
use lib.ListN.{length, get_or, length-append}
use lib.IntN.{ℤ}
use Rattle.hash.specs.Bytes.{Id, width_of}
use Rattle.hash.specs.declared.Kind.{Kind}
use Rattle.hash.proofs.Tests.{or_left, or_right}
use Rattle.commitgraph.specs.Graph.{graph_ok, layout_of}
use Rattle.commitgraph.specs.declared.Layout.{Layout}
use Rattle.hashtable.specs.Table.{Sized, cleared}
use Rattle.hashtable.proofs.TableClear.{length_cleared, cleared-low}
use Rattle.walk.specs.declared.Refusal.TheVariants.{UnreadableReach}
use Rattle.walk.specs.Lookup.{World, world_of}
use Rattle.walk.specs.State.{is_empty}
use Rattle.walk.specs.Opening.{Input, Lengths, list_ids, P, walk_of, refusal, room_for, width_in}
use Rattle.walk.proofs.Whole.{length_list}
use Rattle.opening.specs.Checks.{checked_of}
use Rattle.opening.proofs.Input.{passes, places-few, room}
use Rattle.reading.specs.Files.{cache_with}
use Rattle.reach.specs.Search.{Reached, reach_names, Stuck, AllReadable}
use Rattle.reach.specs.Memory.{most_slots, lent, Told, Went, NotesAll}
use Rattle.reach.specs.Tested.{each, readable_in, agrees_in, falls_in, judged, tested_over, tested_refusal, RegionReadable, unreadable}
use Rattle.reach.proofs.Growth.{grow-none, grow-more, root-reached}
use Rattle.reach.proofs.Starting.{empty-lists, empty-named, names-few, roots-met, parents-met}
use Rattle.reach.proofs.Verdicts.{each_all, readable-settled, reached-region, verdict-of, verdict-computed, tested_is}
use Rattle.judging.specs.Judge.{Files}
use Rattle.falling.proofs.Lowest.{low-empty}
use Rattle.tested.specs.Passes.{held, GoesOn}
use Rattle.tested.specs.Whole.{Answered, stuck, decided, TestsFrom, Tests}

abbrev world_in : Input → World
world_in i = world_of (width_in i) i.store i.graph

abbrev roots_in : Input → List Id
roots_in i = list_ids (width_in i) i.tips ++ list_ids (width_in i) i.hidden

-- ---- by any list of a search

over-list : (i : Input) (l : List Id) → Reached (world_in i) (roots_in i) l → tested_refusal i ≡ tested_over (world_in i) l
unfolding walk_of
over-list i l c =
    let r = verdict-of (walk_of i) (list_ids (width_in i) i.tips) l c in
    tested_is i r ∙ sym (verdict-computed (walk_of i) (list_ids (width_in i) i.tips) l c r)

stuck-is : (i : Input) → Stuck (world_in i) (roots_in i) → tested_refusal i ≡ Some UnreadableReach
unfolding walk_of RegionReadable
stuck-is i st = tested_is i (unreadable (λ h. st.unreadable (h st.commit (reached-region (walk_of i) (list_ids (width_in i) i.tips) st.commit st.reached))))

answer-is : (i : Input) {k : Result (Unit {0}) Refusal} → Answered (world_in i) (roots_in i) k → k ≡ checked_of (tested_refusal i)
unfolding tested_over AllReadable
answer-is i (stuck st e) = e ∙ ap checked_of (sym (stuck-is i st))
answer-is i (decided l c r e) =
    let all : each (readable_in (world_in i)) l ≡ true = each_all (readable_in (world_in i)) l (λ x m. (readable-settled (world_in i)).passes_it x (r x (c.sound x m))) in
    e ∙ ap (λ (h : Bool). checked_of (judged h (each (agrees_in (world_in i)) l) (each (falls_in (world_in i)) l))) (sym all) ∙ ap checked_of (sym (over-list i l c))

-- ---- emptied memory

module _ (i : Input) (parents : ℕ) (names marks levels : List ℕ) (times : List ℤ) (line : List ℕ) {marks₁ line₁ names₂ marks₂ line₂ : List ℕ} {cap from : ℕ} {r : Option ℕ} {kind : Kind} (same : i.settings.kind ≡ kind) (e : cap ≡ P i)
    (twice : cap < most_slots → from ≡ 2 * cap) (cm : marks₁ ≡ cleared cap marks) (cl : line₁ ≡ cleared from line)
    (o : NotesAll (width_of kind) false cap from (lent names marks₁ line₁) (lent names₂ marks₂ line₂) (Some 0) (list_ids (width_of kind) i.tips ++ list_ids (width_of kind) i.hidden) r) where
  abbrev pub lens : Lengths
  lens = record { names = length names; marks = length marks; levels = length levels; times = length times; line = length line; parents = parents }

  noted_here : NotesAll (width_in i) false cap from (lent names marks₁ line₁) (lent names₂ marks₂ line₂) (Some 0) (roots_in i) r
  noted_here = subst (λ (q : Kind). NotesAll (width_of q) false cap from (lent names marks₁ line₁) (lent names₂ marks₂ line₂) (Some 0) (list_ids (width_of q) i.tips ++ list_ids (width_of q) i.hidden) r) (sym same) o

  module _ (z : refusal i ≡ None) (y : room_for i lens ≡ true) where
    few-names : length (reach_names (width_in i) i.store (roots_in i)) ≤ cap
    unfolding P
    few-names = omega (arith, e, names-few (width_in i) i.store (roots_in i) (passes i z).store-good, length-append (list_ids (width_in i) i.tips) (list_ids (width_in i) i.hidden), length_list (width_in i) i.tips, length_list (width_in i) i.hidden)

    few-slots : cap ≤ 817606
    few-slots = omega (arith, e, places-few i z)

    start : from ≡ 2 * cap
    start = twice (omega (arith, few-slots))

    sized : Sized (width_in i) names marks cap
    sized = record { for_marks = omega (arith, e, (room i lens y).marks-room); for_names = omega (arith, ap (λ (n : ℕ). width_in i * n) e, (room i lens y).names-room) }

    told : Told (width_in i) false cap from (reach_names (width_in i) i.store (roots_in i)) (lent names (cleared cap marks) line₁) (lent names₂ marks₂ line₂) [] (roots_in i) r
    told = (subst (λ (k : List ℕ). NotesAll (width_in i) false cap from (lent names k line₁) (lent names₂ marks₂ line₂) (Some 0) (roots_in i) r) cm noted_here).does (reach_names (width_in i) i.store (roots_in i)) []
        (empty-lists sized false from line₁ (omega (arith, e, start, (room i lens y).line-room, ap length cl, length_cleared from line)))
        (empty-named (width_in i) names marks line₁ cap (reach_names (width_in i) i.store (roots_in i)) few-names (omega (arith, few-slots)))
        (roots-met (width_in i) i.store (roots_in i))

    begun : (n : ℕ) → r ≡ Some n → GoesOn (width_in i) (world_in i) (reach_names (width_in i) i.store (roots_in i)) (roots_in i) cap from (held names₂ marks₂ levels times line₂) n 0
    begun n q = record {
      list = t.list;
      going = record {
        seeking = record {
          lists = t.lists;
          named = t.named;
          growing = grow-more grow-none t.grows t.lists.once (λ x k. root-reached k);
          readable = record { each = λ j k. absurd (omega arith) };
          roots_in = t.grows.in_it;
          parents_in = parents-met (width_in i) i.store i.graph (roots_in i);
        };
        roomy = record {
          levels = omega (arith, e, (room i lens y).levels-room);
          times = omega (arith, e, (room i lens y).times-room);
          below = omega (arith, start);
          small = omega (arith, few-slots);
        };
        agrees = λ j k. absurd (omega arith);
        paired = λ j k. absurd (omega arith);
        cells = λ s j. inl (empty s j);
        sound = λ s x j k a b. absurd (omega arith);
        tight = λ s x j all. sym (low-empty levels times (get_or line₂ (2 * s) 0) x (empty s j));
      };
    }
      where
        t : Went (width_in i) false cap from (reach_names (width_in i) i.store (roots_in i)) (lent names (cleared cap marks) line₁) (lent names₂ marks₂ line₂) [] (roots_in i) n
        t = subst (Told (width_in i) false cap from (reach_names (width_in i) i.store (roots_in i)) (lent names (cleared cap marks) line₁) (lent names₂ marks₂ line₂) [] (roots_in i)) q told

        empty : (s : ℕ) → s < cap → get_or line₂ (2 * s) 0 ≡ 0
        empty s j = t.spares.below (2 * s) (omega (arith, start)) ∙ ap (λ (k : List ℕ). get_or k (2 * s) 0) cl ∙ cleared-low from line (2 * s) (omega (arith, start))

    files : {c : Option Layout} {l : Layout} → l ≡ layout_of (width_in i) i.graph → c ≡ cache_with i.graph l true → Files (width_in i) c i.graph i.store
    files {c} {l} a b = record {
      cache = b ∙ ap (λ (k : Layout). cache_with i.graph k true) a;
      store = (passes i z).store-good;
      graph = ⊎_elim (λ q. or_left (is_empty i.graph) (graph_ok (width_in i) i.graph) q) (λ q. or_right (is_empty i.graph) (graph_ok (width_in i) i.graph) q) (passes i z).graph-good;
    }

  pub test-told : {c : Option Layout} {l : Layout} (n : ℕ) {k : Result (Unit {0}) Refusal} → r ≡ Some n → l ≡ layout_of (width_of kind) i.graph → c ≡ cache_with i.graph l true
      → TestsFrom (width_of kind) c i.graph i.store cap from (held names₂ marks₂ levels times line₂) n k → Tests i lens k
  test-told {c} {l} n {k} q a b t = record {
    right = λ z y.
        let own : l ≡ layout_of (width_in i) i.graph = a ∙ ap (λ (j : Kind). layout_of (width_of j) i.graph) (sym same) in
        let here : TestsFrom (width_in i) c i.graph i.store cap from (held names₂ marks₂ levels times line₂) n k =
        subst (λ (j : Kind). TestsFrom (width_of j) c i.graph i.store cap from (held names₂ marks₂ levels times line₂) n k) (sym same) t in
        answer-is i (here.right (files z y own b) (reach_names (width_in i) i.store (roots_in i)) (roots_in i) (begun z y n q));
  }

  -- there is room
  pub test-roomy : {k : Result (Unit {0}) Refusal} → r ≡ None → Tests i lens k
  test-roomy q = record {
    right = λ z y. absurd (subst (Told (width_in i) false cap from (reach_names (width_in i) i.store (roots_in i)) (lent names (cleared cap marks) line₁) (lent names₂ marks₂ line₂) [] (roots_in i)) q (told z y));
  }
