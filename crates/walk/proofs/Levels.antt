-- Card 6 holds of every input: a row's level is asked for in one place, which one row of level 0 turns to 0xFFFFFFFF for the whole file, and an
-- answer shows that as none. Assumes nothing.
use Rattle.std.specs.Prelude.{None, Option, Some}
use mathlib.Core.Path.{◌≡◌, refl, ◌∙◌, ap}
use Prim.Native.Nat.{ℕ}
use mathlib.Core.Bool.{Bool, true, false, cond}
use mathlib.Core.List.{List, map}
use native.Mathlib.Omega.{arith}
use lib.IntN.{ℤ}
use borrow.Author.Tests.{eq-eqb, ne_eqb}
use Rattle.hash.specs.Bytes.{Id, if_some}
use Rattle.object.specs.Header.{Header}
use Rattle.commitgraph.specs.Graph.{graph_find, graph_parents, graph_id, graph_seconds, generation, no_generation, stated_level, layout_of, places_of, row_in}
use Rattle.commitgraph.proofs.Levels.{zero-level, levels-all, level-used}
use Rattle.walk.specs.declared.Refusal.{Refusal}
use Rattle.walk.specs.declared.Refusal.TheVariants.{CommitNotFound, CommitUnreadable, TooManyParents, Closed}
use Rattle.walk.specs.Lookup.{World, Row, no_row, corrupt, row, row_at, world_of, fail, good, from_store, read_row, read, Pair}
use Rattle.walk.specs.Demand.{row_generation, pair_at}
use Rattle.walk.specs.State.{Walk, State}
use Rattle.walk.specs.Opening.{Input, walk_of, Opening, closed, opened, open_walk, width_in}
use Rattle.walk.specs.Next.{Kind, end, refused, handed, level_shown, Step, step, queued_seconds, ending, kind_of}
use Rattle.walk.specs.Calls.{answer_on, answer_at_call, state_after}
use Rattle.walk.specs.Levels.{ZeroRow, NoLevels, NeverComputed}
use Rattle.walk.proofs.Moves.{Takes, nothing, absent, from-store, from_row, drops, Moves, later, unhidden, strikes, stops, moves}

-- ---- what an answer shows

pub shown-none : (l : ℕ) → l ≡ no_generation → level_shown l ≡ None
unfolding level_shown
shown-none l e = rw (eq-eqb l no_generation e)

pub shown-some : (l : ℕ) → (l ≡ no_generation → ⊥) → level_shown l ≡ Some l
unfolding level_shown
shown-some l e = rw (ne_eqb l no_generation e)

-- ---- a world whose rows have no level

pub record Unlevelled (w : World) : Type 0 where
  pub rows : (x : Id) (ps : List (Id × ℤ)) (l : ℕ) (s : ℤ) → w.graph x ≡ row ps l s → l ≡ no_generation

module _ (width : ℕ) (b g : List ℕ) (z : ZeroRow width g) where
  world-unlevelled : Unlevelled (world_of width b g)
  unfolding world_of row_at
  world-unlevelled = record { rows = λ x ps l s e. go x ps l s (graph_find width g x) refl e }
    where
      on : (p : ℕ) (ps : List (Id × ℤ)) (l : ℕ) (s : ℤ) (o : Option (List ℕ))
          → if_some o corrupt (λ qs. row (map (λ q. (graph_id width g q, graph_seconds width g q)) qs) (generation width g p) (graph_seconds width g p)) ≡ row ps l s
          → l ≡ no_generation
      on p ps l s None e = let n : ◌≡◌ {A = ℕ} 0 1 = cc in absurd (omega arith)
      on p ps l s (Some qs) e = let n : l ≡ generation width g p = cc in n ∙ zero-level width g z.position p z.below z.zero

      go : (x : Id) (ps : List (Id × ℤ)) (l : ℕ) (s : ℤ) (o : Option ℕ) → graph_find width g x ≡ o → if_some o no_row (λ p. row_at width g p) ≡ row ps l s → l ≡ no_generation
      go x ps l s None k e = let n : ◌≡◌ {A = ℕ} 0 1 = cc in absurd (omega arith)
      go x ps l s (Some p) k e = on p ps l s (graph_parents width g p) e

module _ (w : World) (u : Unlevelled w) where
  pairs-none : (x : Id) → (pair_at w x).generation ≡ no_generation
  unfolding pair_at row_generation
  pairs-none x = go (w.graph x) refl
    where
      go : (r : Row) → w.graph x ≡ r → row_generation r ≡ no_generation
      go no_row e = refl
      go corrupt e = refl
      go (row ps l s) e = u.rows x ps l s e

  store-none : (o : Option Header) (ps : List Id) (p : Pair) → from_store o ≡ good ps p → p.generation ≡ no_generation
  unfolding from_store
  store-none None ps p e = let n : ◌≡◌ {A = ℕ} 0 1 = cc in absurd (omega arith)
  store-none (Some h) ps p e = go h.tree h.crowded h.author h.seconds e
    where
      go : (t c a : Bool) (s : Option ℤ)
          → cond t (cond c (fail TooManyParents) (cond a (if_some s (fail CommitUnreadable) (λ v. good h.ids (record { generation = no_generation; time = v }))) (fail CommitUnreadable))) (fail CommitUnreadable) ≡ good ps p
          → p.generation ≡ no_generation
      go false c a s f = let n : ◌≡◌ {A = ℕ} 0 1 = cc in absurd (omega arith)
      go true true a s f = let n : ◌≡◌ {A = ℕ} 0 1 = cc in absurd (omega arith)
      go true false false s f = let n : ◌≡◌ {A = ℕ} 0 1 = cc in absurd (omega arith)
      go true false true None f = let n : ◌≡◌ {A = ℕ} 0 1 = cc in absurd (omega arith)
      go true false true (Some v) f = let n : p ≡ record { generation = no_generation; time = v } = cc in ap (λ (q : Pair). q.generation) n

  painted-none : (x : Id) (ps : List Id) (p : Pair) → read w x ≡ good ps p → p.generation ≡ no_generation
  unfolding read read_row
  painted-none x ps p e = go (w.graph x) refl e
    where
      go : (r : Row) → w.graph x ≡ r → read_row w x r ≡ good ps p → p.generation ≡ no_generation
      go no_row k f = store-none (w.store x) ps p f
      go corrupt k f = let n : ◌≡◌ {A = ℕ} 0 1 = cc in absurd (omega arith)
      go (row qs l s) k f = let n : p ≡ record { generation = l; time = s } = cc in ap (λ (q : Pair). q.generation) n ∙ u.rows x qs l s k

-- ---- a call

-- a kind that shows no level
abbrev Plain : Kind → Type 0
Plain k = (x : Id) (l : Option ℕ) (t : Option ℤ) → k ≡ handed x l t → l ≡ None

end-plain : Plain end
end-plain x l t e = let n : ◌≡◌ {A = ℕ} 0 1 = cc in absurd (omega arith)

refused-plain : (r : Refusal) → Plain (refused r)
refused-plain r x l t e = let n : ◌≡◌ {A = ℕ} 0 1 = cc in absurd (omega arith)

handed-plain : (y : Id) (m : Option ℕ) (v : Option ℤ) → m ≡ None → Plain (handed y m v)
handed-plain y m v h x l t e = let n : l ≡ m = cc in n ∙ h

kind-plain : (o : Option Refusal) (y : Id) (v : Option ℤ) → Plain (kind_of o (handed y None v))
unfolding kind_of
kind-plain None y v = handed-plain y None v refl
kind-plain (Some r) y v = refused-plain r

module _ (v : Walk) (u : Unlevelled v.world) where
  takes-plain : {st : State} {r : Step} → Takes v st r → Plain r.answer.kind
  unfolding step
  takes-plain (nothing e) = end-plain
  takes-plain (absent x q e b) = refused-plain CommitNotFound
  takes-plain (from-store x q h e b) = kind-plain (ending v.settings h) x.0 (queued_seconds v x.1)
  takes-plain (from_row x q ps l s e b) = handed-plain x.0 (level_shown l) (queued_seconds v x.1) (shown-none l (u.rows x.0 ps l s b))
  takes-plain (drops x q e t) = takes-plain t

  moves-plain : {st : State} {r : Step} → Moves v st r → Plain r.answer.kind
  unfolding step
  moves-plain (later k t) = takes-plain t
  moves-plain (unhidden k t) = takes-plain t
  moves-plain (strikes p k e t) = takes-plain t
  moves-plain (stops n k e) = refused-plain n

-- ---- any input

answer-plain : (i : Input) → Unlevelled (walk_of i).world → (k : ℕ) → Plain (answer_at_call i k).kind
unfolding answer_at_call answer_on
answer-plain i u k = go (open_walk i true)
  where
    go : (o : Opening) → Plain (answer_on (walk_of i) (state_after i k) o).kind
    go (closed r) = refused-plain Closed
    go (opened q) = moves-plain (walk_of i) u (moves (walk_of i) (state_after i k))

no-levels : (i : Input) → ZeroRow (width_in i) i.graph → NoLevels i
unfolding walk_of
no-levels i z =
    let u = world-unlevelled (width_in i) i.store i.graph z in
    record { pairs = pairs-none (walk_of i).world u; painted = painted-none (walk_of i).world u; shown = answer-plain i u }

pub never-computed : (i : Input) → NeverComputed i
unfolding generation layout_of places_of stated_level row_in
never-computed i = record {
  none_used = no-levels i;
  all_used = λ n p. level-used (width_in i) i.graph (layout_of (width_in i) i.graph) p (levels-all (width_in i) i.graph (places_of i.graph) _ (λ q h e. n (record { position = q; below = h; zero = e })));
}
