-- A store beside its own written graph file passes the tested opening: every reached commit is an entry, so it is readable; the file agrees; and levels fall.
-- Assumes nothing.
use Rattle.std.specs.Prelude.{None, Ok, Option, Some}
use mathlib.Core.Path.{◌≡◌, refl, sym, ◌∙◌, ap, subst}
use mathlib.Core.Logic.{⊎_elim}
use mathlib.Core.Bool.{true, false}
use mathlib.Core.List.Memᴰ
use mathlib.Core.List.{List, [], ◌∷◌}
use Prim.Native.Nat.{ℕ, ◌%◌, ◌≤◌}
use native.Mathlib.Omega.{arith}
use lib.ListN.{length, take}
use lib.IntN.{ℤ}
use borrow.Author.Tests.{le-leb, eq-eqb}
use Rattle.hash.specs.Bytes.{Id, among, if_some, width_of}
use Rattle.hash.specs.declared.Kind.{Kind}
use Rattle.hash.proofs.Tests.{by_cases, and_of, no-some}
use Rattle.hash.proofs.Widths.{width_least}
use Rattle.object.specs.Header.{Header}
use Rattle.odb.specs.Store.{standing_entries}
use Rattle.commitgraph.specs.Graph.{hash_version}
use Rattle.graphfile.specs.GraphFile.{ReadBack, edges_in}
use Rattle.graphplan.specs.StoreRows.{Writable, rows_of}
use Rattle.graphwrite.specs.Writing.{Bytes, Writes, file_of}
use Rattle.graphplan.specs.Refusing.{refusal_for}
use Rattle.graphwrite.proofs.Laid.{length_is}
use Rattle.graphplan.proofs.Planning.{accepted}
use Rattle.graphtold.proofs.There.{file-there}
use Rattle.graphtold.proofs.Right.{read_back}
use Rattle.walk.specs.declared.Refusal.{Refusal}
use Rattle.walk.specs.declared.Refusal.TheVariants.{TipUnreadable}
use Rattle.walk.specs.declared.OpenAnswer.{OpenAnswer}
use Rattle.walk.specs.Settings.{timed}
use Rattle.walk.specs.Lookup.{World, world_of, store_seconds}
use Rattle.walk.specs.State.{State, is_empty}
use Rattle.walk.specs.Opening.{Input, walk_of, list_ids, list_limit, sizes_ok, whole_ids, refusal, opened, open_tips, open_walk, width_in}
use Rattle.walk.specs.Given.{open_given}
use Rattle.walk.specs.Reach.{Mem, links, Reaches, itself, through}
use Rattle.walk.specs.Demand.{Readable, Region, Premises}
use Rattle.opening.specs.Checks.{checked_of, checked_by}
use Rattle.opening.proofs.Input.{empty-not, all-good}
use Rattle.opening.proofs.Tips.{first_fault, fault_or, skips, reads, no-tips, open-timed, open-untimed}
use Rattle.opening.proofs.Opened.{open_roomy, fine_state}
use Rattle.reach.proofs.Verdicts.{tests_decide}
use Rattle.traverse.specs.Contract.{lengths_of}
use Rattle.opentested.specs.Contract.{TestedListing}
use Rattle.opentested.proofs.Said.{tested_by}
use Rattle.opentested.proofs.Listing.{tested_listing}
use Rattle.owngraph.specs.OwnGraph.{InAgreement, Held, OpeningOf, Passes, OwnGraphPasses, OwnGraphListing}
use Rattle.owngraph.proofs.Agree.{entry-readable, entry-time, parent-held, in-agreement, agrees}
use Rattle.owngraph.proofs.Small.{file-small}

-- ---- 7 and 8

-- a tip that has seconds in the store is at no fault
fault_free : (o : Option Header) (t : ℤ) → if_some o None (λ h. h.seconds) ≡ Some t → (rest : Option Refusal) → fault_or o rest ≡ rest
unfolding fault_or
fault_free None t e rest = no-some e
fault_free (Some h) t e rest = ap (λ (s : Option ℤ). if_some s (Some TipUnreadable) (λ u. rest)) e

no_faults : (w : World) (excluded xs : List Id) → ((x : Id) → Mem x xs → (t : ℤ) × (store_seconds w x ≡ Some t)) → first_fault w excluded xs ≡ None
unfolding store_seconds
no_faults w excluded [] h = no-tips w excluded
no_faults w excluded (x ∷ xs) h =
    let rest = no_faults w excluded xs (λ y m. h y (Memᴰ.tail m)) in
    let t = h x (Memᴰ.head refl) in
    by_cases (among x excluded)
    (λ e. skips w excluded x xs e ∙ rest)
    (λ e. reads w excluded x xs e ∙ fault_free (w.store x) t.0 t.1 (first_fault w excluded xs) ∙ rest)

-- ---- a graph that reads back the store's rows

module _ (i : Input) (W : Writable (width_in i) i.store (standing_entries (width_in i) i.store)) (S : Bytes i.store)
    (R : ReadBack (hash_version i.settings.kind) (width_in i) (rows_of (width_in i) i.store) i.graph) (small : length i.graph ≤ 16777216) (O : OpeningOf i.settings.kind i.store i.graph i) where
  abbrev store' : List ℕ
  store' = i.store

  abbrev graph' : List ℕ
  graph' = i.graph

  abbrev world : World
  world = world_of (width_in i) store' graph'

  agreement : InAgreement (width_in i) store' graph'
  agreement = in-agreement (width_in i) (width_least i.settings.kind) store' graph' (hash_version i.settings.kind) W S R

  -- ---- 2 to 6

  sizes : sizes_ok i ≡ true
  unfolding sizes_ok
  sizes =
      and_of (and_of (and_of (and_of (le-leb (length store') 16777216 W.small) (le-leb (length graph') 16777216 small)) (le-leb (length i.tips) (list_limit (width_in i)) O.tips.few))
      (le-leb (length i.hidden) (list_limit (width_in i)) O.hidden.few)) (le-leb (length i.excluded) (list_limit (width_in i)) O.excluded.few)

  wholes : whole_ids i ≡ true
  unfolding whole_ids
  wholes =
      and_of (and_of (eq-eqb (length i.tips % width_in i) 0 O.tips.whole) (eq-eqb (length i.hidden % width_in i) 0 O.hidden.whole))
      (eq-eqb (length i.excluded % width_in i) 0 O.excluded.whole)

  some-graph : is_empty graph' ≡ false
  some-graph = empty-not graph' (λ z. omega (arith, R.long, length_is (width_in i) (length (rows_of (width_in i) store')) (length (edges_in (rows_of (width_in i) store')))))

  fine : refusal i ≡ None
  fine = all-good i sizes wholes W.ok some-graph R.head R.ok

  -- ---- what is reached

  reached-held : {x y : Id} → Reaches world y x → Held (width_in i) store' x → Held (width_in i) store' y
  reached-held r h = go r h
    where
      go : {y x : Id} → Reaches world y x → Held (width_in i) store' x → Held (width_in i) store' y
      go (itself e) h = record { entry = h.entry; below = h.below; is = h.is ∙ e }
      go (through {p = p} m r) h =
          let q = parent-held (width_in i) (width_least i.settings.kind) store' graph' (hash_version i.settings.kind) W S R h.entry h.below p (subst (λ (y : Id). Mem p (links world y)) (sym h.is) m) in
          go r (record { entry = q.0; below = q.1; is = q.2 })

  region-held : (x : Id) → Region (walk_of i) (list_ids (width_in i) i.tips) x → Held (width_in i) store' x
  unfolding Region walk_of
  region-held x r = reached-held r.2 (⊎_elim (O.tips-held r.0) (O.hidden_held r.0) r.1)

  premises : Premises (walk_of i) (list_ids (width_in i) i.tips)
  unfolding walk_of
  premises =
      record {
        readable = λ x r. let h = region-held x r in subst (Readable world) h.is (entry-readable (width_in i) (width_least i.settings.kind) store' graph' (hash_version i.settings.kind) W S R h.entry h.below);
        agrees = λ x r. agreement.agrees x;
        falls = λ x p r m. agreement.falls x p m;
      }

  tip-time : (x : Id) → Mem x (list_ids (width_in i) i.tips) → (t : ℤ) × (store_seconds world x ≡ Some t)
  tip-time x m =
      let h = O.tips-held x m in
      let t = entry-time (width_in i) (width_least i.settings.kind) store' graph' (hash_version i.settings.kind) W S R h.entry h.below in
      (t.0, subst (λ (y : Id). store_seconds world y ≡ Some t.0) h.is t.1)

  tips-fine : checked_by (open_tips i true) ≡ (Ok tt)
  tips-fine =
      by_cases (timed i.settings.sorting)
      (λ t. open-timed i t ∙ ap checked_of (no_faults world (list_ids (width_in i) i.excluded) (list_ids (width_in i) i.tips) tip-time))
      (λ t. open-untimed i t)

  pub passes : Passes i
  passes =
      let s = fine_state (open_walk i true) (sym (ap checked_by (open_roomy i true fine refl) ∙ tips-fine)) in
      record { two_to_six = fine; state = s.0; seven_and_eight = s.1; tests = (tests_decide i).accepted.1 premises }

-- ---- the file that was written

-- of a store that is not refused
own-here : (b : List ℕ) (lent : ℕ) → Bytes b → (i : Input) → refusal_for (width_in i) b lent ≡ None → OpeningOf i.settings.kind b (file_of i.settings.kind b) i → Passes i
own-here b lent S i a O =
    let R : ReadBack (hash_version i.settings.kind) (width_in i) (rows_of (width_in i) b) (file_of i.settings.kind b) = read_back i.settings.kind b lent S a in
    passes i
    (subst (λ (x : List ℕ). Writable (width_in i) x (standing_entries (width_in i) x)) (sym O.store) (accepted (width_in i) b lent a))
    (subst Bytes (sym O.store) S)
    (subst (λ (x : List ℕ). ReadBack (hash_version i.settings.kind) (width_in i) (rows_of (width_in i) x) i.graph) (sym O.store)
    (subst (λ (x : List ℕ). ReadBack (hash_version i.settings.kind) (width_in i) (rows_of (width_in i) b) x) (sym O.graph) R))
    (omega (arith, ap length O.graph, file-small i.settings.kind b lent a))
    (record {
      same_kind = refl;
      store = refl;
      graph = refl;
      tips = O.tips;
      hidden = O.hidden;
      excluded = O.excluded;
      tips-held = λ x m. subst (λ (y : List ℕ). Held (width_in i) y x) (sym O.store) (O.tips-held x m);
      hidden_held = λ x m. subst (λ (y : List ℕ). Held (width_in i) y x) (sym O.store) (O.hidden_held x m);
    })

pub own-file : (kind : Kind) (b : List ℕ) (lent : ℕ) → Bytes b → refusal_for (width_of kind) b lent ≡ None → (i : Input) → OpeningOf kind b (file_of kind b) i → Passes i
own-file kind b lent S a i O =
    subst (λ (q : Kind). refusal_for (width_of q) b lent ≡ None → OpeningOf q b (file_of q b) i → Passes i) O.same_kind (own-here b lent S i) a O

-- of a store that was written
pub own-graph : (kind : Kind) (b s s' out out' : List ℕ) (n : ℕ) → Writes kind b s s' out out' (Ok n) → (i : Input) → OpeningOf kind b (take n out') i → Passes i
own-graph kind b s s' out out' n W i O =
    let f = file-there kind b s s' out out' n W in
    own-file kind b (length s) W.lent f.accepted i (subst (λ (g : List ℕ). OpeningOf kind b g i) f.there O)

-- "and find it in agreement"
pub own_graph_agrees : (kind : Kind) (b s s' out out' : List ℕ) (n : ℕ) → Writes kind b s s' out out' (Ok n) → InAgreement (width_of kind) b (take n out')
own_graph_agrees kind b s s' out out' n W =
    let f = file-there kind b s s' out out' n W in
    subst (InAgreement (width_of kind) b) (sym f.there) (agrees kind b (length s) W.lent f.accepted)

opened-outcome : (st : State) (a : OpenAnswer) → a ≡ open_given (opened st) → a.outcome ≡ (Ok tt)
unfolding open_given
opened-outcome st a e = ap (λ (c : OpenAnswer). c.outcome) e

pub own_graph_passes : (kind : Kind) (b : List ℕ) → OwnGraphPasses kind b
unfolding OwnGraphPasses
own_graph_passes kind b s s' out out' n W i O m room o m' T =
    let p = own-graph kind b s s' out out' n W i O in
    opened-outcome p.state o.answer
    (T.answer ∙ ap open_given (tested_by i (lengths_of m) (opened p.state) None (ap (open_walk i) room ∙ p.seven_and_eight) p.tests))

pub own_graph_listing : (kind : Kind) (b : List ℕ) → OwnGraphListing kind b
unfolding OwnGraphListing OwnGraphPasses TestedListing
own_graph_listing kind b s s' out out' n W i O m room o m' T =
    tested_listing i m o m' T (own_graph_passes kind b s s' out out' n W i O m room o m' T)
