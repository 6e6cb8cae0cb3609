-- The tests before anything is written, one law for each way that they end. Assumes nothing.
use Rattle.std.specs.Prelude.{None, Option, Some, Result, Ok, Err}
use mathlib.Core.Path.{◌≡◌, refl, sym, ◌∙◌, ap, subst}
use mathlib.Core.Bool.{Bool, true, false, cond}
use mathlib.Core.List.{List}
use Prim.Native.Nat.{ℕ, zero, suc, ◌+◌, ◌≤◌, ◌<◌}
use native.Mathlib.Omega.{arith}
use native.Mathlib.Numerals.{add-one}
use lib.ListN.{length}
use lib.Dec.{ltb}
use borrow.Author.Tests.{lt-ltb, le-ltb, ltb-true, ltb-false}
use Rattle.hash.specs.Bytes.{pick}
use Rattle.hash.proofs.Tests.{by_cases, clash, guard_of}
use Rattle.hash.proofs.Widths.{times-most}
use Rattle.odb.specs.Store.{standing_entries, store_is_ok, entry_size, standing, entries}
use Rattle.odb.specs.Lookup.{entry_body}
use Rattle.odb.proofs.Store.{standing_length, standing-count, broken_count}
use Rattle.levels.specs.Levels.{fit, all_below}
use Rattle.levels.specs.Search.{answer_of, most_nodes}
use Rattle.levels.specs.StoreGraph.{graph_in, store_answer, StoreLevels}
use Rattle.levels.specs.declared.LevelsError.{LevelsError}
use Rattle.levels.specs.declared.LevelsError.TheVariants.{NoLevels, Short, Torn}
use Rattle.walk.specs.declared.Refusal.{Refusal}
use Rattle.walk.specs.declared.Refusal.TheVariants.{BufferTooSmall, InputTooLarge, CorruptStore, UnfitStore, UnfitSeconds, ShortOutput}
use Rattle.walk.specs.Refusals.{number_of}
use Rattle.walk.proofs.Outcomes.{refusal_number_between}
use Rattle.graphfile.specs.GraphFile.{edges_in}
use Rattle.graphplan.specs.StoreRows.{Writable, rows_of, readable_body, fit_time, all_readable, all_in_time, fit_store}
use Rattle.graphplan.specs.Entries.{edges_up_to, head_read, edges_count}
use Rattle.graphplan.specs.Refusing.{most_bytes, refusal_for, survey_of, plan_after, plan_for, Plans, without_levels}
use Rattle.graphplan.specs.declared.Plan.{Plan}
use Rattle.graphplan.specs.declared.entry.Head.{Head}
use Rattle.graphplan.proofs.Heads.{head-told, head-none}
use Rattle.graphplan.proofs.RowLaws.{edges-all, edges_few, count-few}
use Rattle.levels.proofs.Lines.{lines_few}

-- ---- a store has few entries

pub few-entries : (w : ℕ) (b : List ℕ) → 20 ≤ w → length b ≤ most_bytes → standing_entries w b ≤ 699050
few-entries w b a h =
    by_cases (standing w b)
    (λ e. omega (arith, standing_length w b e, standing-count w b e, times-most 24 (entry_size w) (entries b) (entries b) (omega arith) (omega arith)))
    (λ e. omega (arith, broken_count w b e))

-- ---- the headers read one after another

pub record Reading (w : ℕ) (b : List ℕ) (good : Bool) (e k : ℕ) : Type 0 where
  pub readable : all_readable w b k ≡ true
  pub in_time : good ≡ all_in_time w b k
  pub edges : e ≡ edges_up_to w b k

pub reading_none : (w : ℕ) (b : List ℕ) → Reading w b true 0 0
unfolding all_readable all_in_time all_below edges_up_to
reading_none w b = record { readable = refl; in_time = refl; edges = refl }

pub reading_next : {w : ℕ} {b : List ℕ} {good : Bool} {e k : ℕ} (h : Head) {d : ℕ} {good' : Bool} → Reading w b good e k → head_read w (entry_body w b k) ≡ Some h → d ≡ edges_count h.parents
    → good' ≡ cond good h.fits false → Reading w b good' (e + d) (k + 1)
unfolding all_readable all_in_time all_below edges_up_to
reading_next {w} {b} {good} {e} {k} h {d} {good'} r i a g =
    let t = head-told w (entry_body w b k) h i in
    subst (λ (j : ℕ). Reading w b good' (e + d) j) (sym (add-one k))
    (record {
      readable = guard_of (all_below (λ k. readable_body w (entry_body w b k)) k) (readable_body w (entry_body w b k)) r.readable t.readable;
      in_time = g ∙ ap (λ (x : Bool). cond x h.fits false) r.in_time ∙ ap (λ (x : Bool). cond (all_below (λ k. fit_time w (entry_body w b k)) k) x false) t.fits;
      edges = ap (λ (x : ℕ). x + d) r.edges ∙ ap (λ (x : ℕ). edges_up_to w b k + x) (a ∙ ap edges_count t.count);
    })

-- an unreadable entry makes all longer runs fail
unread : (w : ℕ) (b : List ℕ) (n k : ℕ) → k < n → readable_body w (entry_body w b k) ≡ false → all_below (λ k. readable_body w (entry_body w b k)) n ≡ false
unfolding all_below
unread w b zero k h e = absurd (omega arith)
unread w b (suc n) k h e =
    by_cases (ltb k n)
    (λ t. ap (λ (x : Bool). cond x (readable_body w (entry_body w b n)) false) (unread w b n k (ltb-true k n t) e))
    (λ t. let z : k ≡ n = omega (arith, ltb-false k n t) in
    let y : readable_body w (entry_body w b n) ≡ false = subst (λ (i : ℕ). readable_body w (entry_body w b i) ≡ false) z e in
    last (all_below (λ k. readable_body w (entry_body w b k)) n) y)
  where
    last : (a : Bool) → readable_body w (entry_body w b n) ≡ false → cond a (readable_body w (entry_body w b n)) false ≡ false
    last true y = y
    last false y = refl

pub survey_unread : (w : ℕ) (b : List ℕ) (n k : ℕ) → k < n → head_read w (entry_body w b k) ≡ None → Err UnfitStore ≡ survey_of w b n
unfolding survey_of all_readable
survey_unread w b n k h e = sym (ap (λ (x : Bool). cond x (cond (all_in_time w b n) (Ok (edges_up_to w b n)) (Err UnfitSeconds)) (Err UnfitStore)) (unread w b n k h (head-none w (entry_body w b k) e)))

pub survey_edges : {w : ℕ} {b : List ℕ} {good : Bool} {e k : ℕ} (n : ℕ) → Reading w b good e k → k ≡ n → good ≡ true → Ok e ≡ survey_of w b n
unfolding survey_of
survey_edges {w} {b} {good} {e} {k} n r z g =
    subst (λ (j : ℕ). Ok e ≡ survey_of w b j) z
    (ap Ok r.edges
    ∙ sym (ap (λ (x : Bool). cond x (cond (all_in_time w b k) (Ok (edges_up_to w b k)) (Err UnfitSeconds)) (Err UnfitStore)) r.readable
    ∙ ap (λ (x : Bool). cond x (Ok (edges_up_to w b k)) (Err UnfitSeconds)) (sym r.in_time ∙ g)))

pub survey_late : {w : ℕ} {b : List ℕ} {good : Bool} {e k : ℕ} (n : ℕ) → Reading w b good e k → k ≡ n → good ≡ false → Err UnfitSeconds ≡ survey_of w b n
unfolding survey_of
survey_late {w} {b} {good} {e} {k} n r z g =
    subst (λ (j : ℕ). Err UnfitSeconds ≡ survey_of w b j) z
    (sym (ap (λ (x : Bool). cond x (cond (all_in_time w b k) (Ok (edges_up_to w b k)) (Err UnfitSeconds)) (Err UnfitStore)) r.readable
    ∙ ap (λ (x : Bool). cond x (Ok (edges_up_to w b k)) (Err UnfitSeconds)) (sym r.in_time ∙ g)))

-- ---- the refusals in their order

-- what the search for levels leaves open
after : Result (Unit {0}) LevelsError → Bool → Bool → Option Refusal
after (Err e) r t = Some (without_levels e)
after (Ok _) r t = cond r (cond t None (Some UnfitSeconds)) (Some UnfitStore)

refusal_by_answer : (w : ℕ) (b : List ℕ) (lent : ℕ) → length b ≤ most_bytes → standing_entries w b ≤ most_nodes
    → refusal_for w b lent ≡ after (store_answer w b lent) (all_readable w b (standing_entries w b)) (all_in_time w b (standing_entries w b))
unfolding refusal_for fit_store store_answer answer_of after
refusal_by_answer w b lent a h =
    rw (le-ltb most_bytes (length b) a, le-ltb most_nodes (standing_entries w b) h)
    (go (store_is_ok w b) (ltb lent (standing_entries w b)) (fit (graph_in w b)) (all_readable w b (standing_entries w b)) (all_in_time w b (standing_entries w b)))
  where
    go : (ok sh f r t : Bool)
        → cond ok (cond sh (Some BufferTooSmall) (cond (cond f r false) (cond t None (Some UnfitSeconds)) (Some UnfitStore))) (Some CorruptStore)
        ≡ after (pick ok (cond sh (Err Short) (cond f (Ok tt) (Err NoLevels))) (Err Torn)) r t
    go false sh f r t = refl
    go true true f r t = refl
    go true false true r t = refl
    go true false false r t = refl

unfoldable pub number : Option Refusal → ℕ
number None = 0
number (Some r) = number_of r

pub differ : {X : Type 0} (o p : Option Refusal) → (number o ≡ number p → ⊥) → o ≡ p → X
differ o p h e = absurd (h (ap number e))

-- ---- the plan

module _ (w : ℕ) (b s s' : List ℕ) (a : Result (Unit {0}) LevelsError) (wide : 20 ≤ w) (small : length b ≤ most_bytes) (L : StoreLevels w b s s' a) where
  known : refusal_for w b (length s) ≡ after a (all_readable w b (standing_entries w b)) (all_in_time w b (standing_entries w b))
  known =
      refusal_by_answer w b (length s) small (omega (arith, few-entries w b wide small))
      ∙ ap (λ (x : Result (Unit {0}) LevelsError). after x (all_readable w b (standing_entries w b)) (all_in_time w b (standing_entries w b))) (sym L.answer)

  plan-torn : a ≡ (Err Torn) → Plans w b s s' (Err CorruptStore)
  unfolding after number
  plan-torn e =
      let r : refusal_for w b (length s) ≡ Some CorruptStore = known ∙ ap (λ (x : Result (Unit {0}) LevelsError). after x (all_readable w b (standing_entries w b)) (all_in_time w b (standing_entries w b))) e in
      let k : s' ≡ s = L.torn e in
      record {
        answer = ap (plan_for w b) (sym r);
        spared = record { large = λ z. k; torn = λ z. k; short = λ z. k };
        levels = λ z. differ (Some CorruptStore) None (λ d. omega arith) (sym r ∙ z);
      }

  plan-short : a ≡ (Err Short) → Plans w b s s' (Err BufferTooSmall)
  unfolding after number
  plan-short e =
      let r : refusal_for w b (length s) ≡ Some BufferTooSmall = known ∙ ap (λ (x : Result (Unit {0}) LevelsError). after x (all_readable w b (standing_entries w b)) (all_in_time w b (standing_entries w b))) e in
      let k : s' ≡ s = L.short e in
      record {
        answer = ap (plan_for w b) (sym r);
        spared = record { large = λ z. k; torn = λ z. k; short = λ z. k };
        levels = λ z. differ (Some BufferTooSmall) None (λ d. omega arith) (sym r ∙ z);
      }

  plan-none : a ≡ (Err NoLevels) → Plans w b s s' (Err UnfitStore)
  unfolding after number
  plan-none e =
      let r : refusal_for w b (length s) ≡ Some UnfitStore = known ∙ ap (λ (x : Result (Unit {0}) LevelsError). after x (all_readable w b (standing_entries w b)) (all_in_time w b (standing_entries w b))) e in
      record {
        answer = ap (plan_for w b) (sym r);
        spared = record {
          large = λ z. differ (Some UnfitStore) (Some InputTooLarge) (λ d. omega arith) (sym r ∙ z);
          torn = λ z. differ (Some UnfitStore) (Some CorruptStore) (λ d. omega arith) (sym r ∙ z);
          short = λ z. differ (Some UnfitStore) (Some BufferTooSmall) (λ d. omega arith) (sym r ∙ z);
        };
        levels = λ z. differ (Some UnfitStore) None (λ d. omega arith) (sym r ∙ z);
      }

  pub plan-refused : (e : LevelsError) → a ≡ Err e → Plans w b s s' (Err (without_levels e))
  plan-refused Torn h = plan-torn h
  plan-refused Short h = plan-short h
  plan-refused NoLevels h = plan-none h

  late-apart : (r t : Bool) (q : Refusal) → (18 ≡ number_of q → ⊥) → (19 ≡ number_of q → ⊥) → (0 ≡ number_of q → ⊥) → after (Ok tt) r t ≡ Some q → ⊥
  unfolding after number
  late-apart false t q x y z e = x (ap number e)
  late-apart true false q x y z e = y (ap number e)
  late-apart true true q x y z e = z (ap number e)

  pub plan-rows : (n : ℕ) (r : Result Plan Refusal) → a ≡ (Ok tt) → n ≡ standing_entries w b → r ≡ plan_after n (survey_of w b n) → Plans w b s s' r
  unfolding survey_of after
  plan-rows n r e m p =
      let k : refusal_for w b (length s) ≡ after (Ok tt) (all_readable w b (standing_entries w b)) (all_in_time w b (standing_entries w b)) =
      known ∙ ap (λ (x : Result (Unit {0}) LevelsError). after x (all_readable w b (standing_entries w b)) (all_in_time w b (standing_entries w b))) e in
      let p' : r ≡ plan_after (standing_entries w b) (survey_of w b (standing_entries w b)) = subst (λ (j : ℕ). r ≡ plan_after j (survey_of w b j)) m p in
      record {
        answer = p' ∙ same (all_readable w b (standing_entries w b)) (all_in_time w b (standing_entries w b)) ∙ ap (plan_for w b) (sym k);
        spared = record {
          large = λ z. absurd (late-apart (all_readable w b (standing_entries w b)) (all_in_time w b (standing_entries w b)) InputTooLarge (λ d. omega arith) (λ d. omega arith) (λ d. omega arith) (sym k ∙ z));
          torn = λ z. absurd (late-apart (all_readable w b (standing_entries w b)) (all_in_time w b (standing_entries w b)) CorruptStore (λ d. omega arith) (λ d. omega arith) (λ d. omega arith) (sym k ∙ z));
          short = λ z. absurd (late-apart (all_readable w b (standing_entries w b)) (all_in_time w b (standing_entries w b)) BufferTooSmall (λ d. omega arith) (λ d. omega arith) (λ d. omega arith) (sym k ∙ z));
        };
        levels = λ z. record { level = L.levels e };
      }
    where
      same : (R T : Bool)
          → plan_after (standing_entries w b) (cond R (cond T (Ok (edges_up_to w b (standing_entries w b))) (Err UnfitSeconds)) (Err UnfitStore)) ≡ plan_for w b (after (Ok tt) R T)
      same false T = refl
      same true false = refl
      same true true = ap (λ (x : ℕ). Ok (record { rows = standing_entries w b; edges = x })) (edges-all w b)

pub plan_large : (w : ℕ) (b s : List ℕ) → most_bytes < length b → Plans w b s s (Err InputTooLarge)
unfolding refusal_for number
plan_large w b s h =
    let e : refusal_for w b (length s) ≡ Some InputTooLarge = rw (lt-ltb most_bytes (length b) h) in
    record {
      answer = ap (plan_for w b) (sym e);
      spared = record { large = λ z. refl; torn = λ z. refl; short = λ z. refl };
      levels = λ z. differ (Some InputTooLarge) None (λ d. omega arith) (sym e ∙ z);
    }

-- ---- accepted

open' : {X : Type 0} (q : Refusal) → Some q ≡ None → X
unfolding number
open' q e = differ (Some q) None (positive q) e
  where
    positive : (q : Refusal) → number_of q ≡ 0 → ⊥
    positive q d = let p = (refusal_number_between q).0 in omega arith

record Passed (l ok sh f r t : Bool) : Type 0 where
  large : l ≡ false
  good : ok ≡ true
  room : sh ≡ false
  levels : f ≡ true
  readable : r ≡ true
  in_time : t ≡ true

passed : (l ok sh f r t : Bool)
    → cond l (Some InputTooLarge) (cond ok (cond sh (Some BufferTooSmall) (cond (cond f r false) (cond t None (Some UnfitSeconds)) (Some UnfitStore))) (Some CorruptStore)) ≡ None → Passed l ok sh f r t
passed true ok sh f r t e = open' InputTooLarge e
passed false false sh f r t e = open' CorruptStore e
passed false true true f r t e = open' BufferTooSmall e
passed false true false false r t e = open' UnfitStore e
passed false true false true false t e = open' UnfitStore e
passed false true false true true false e = open' UnfitSeconds e
passed false true false true true true e = record { large = refl; good = refl; room = refl; levels = refl; readable = refl; in_time = refl }

pub accepted : (w : ℕ) (b : List ℕ) (lent : ℕ) → refusal_for w b lent ≡ None → Writable w b (standing_entries w b)
unfolding refusal_for fit_store
accepted w b lent e =
    let n = standing_entries w b in
    let p : Passed (ltb most_bytes (length b)) (store_is_ok w b) (ltb lent n) (fit (graph_in w b)) (all_readable w b n) (all_in_time w b n) =
    passed (ltb most_bytes (length b)) (store_is_ok w b) (ltb lent n) (fit (graph_in w b)) (all_readable w b n) (all_in_time w b n) e in
    record {
      small = ltb-false most_bytes (length b) p.large;
      ok = p.good;
      many = refl;
      fits = p.levels;
      readable = p.readable;
      in_time = p.in_time;
    }

-- ---- from a plan to an answer

refusal_in : Result Plan Refusal → Refusal
refusal_in (Ok p) = ShortOutput
refusal_in (Err r) = r

plan_in : Result Plan Refusal → Plan
plan_in (Ok p) = p
plan_in (Err r) = record { rows = 0; edges = 0 }

is_plan : Result Plan Refusal → Bool
is_plan (Ok p) = true
is_plan (Err r) = false

pub plan_not : (w : ℕ) (b : List ℕ) (o : Option Refusal) (q : Refusal) → Err q ≡ plan_for w b o → o ≡ Some q
unfolding refusal_in is_plan
plan_not w b None q e = clash {b = true} refl (sym (ap is_plan e))
plan_not w b (Some x) q e = ap Some (sym (ap refusal_in e))

pub record Planned (w : ℕ) (b : List ℕ) (o : Option Refusal) (p : Plan) : Type 0 where
  pub none_said : o ≡ None
  pub rows : p.rows ≡ standing_entries w b
  pub edges : p.edges ≡ length (edges_in (rows_of w b))

pub plan_some : (w : ℕ) (b : List ℕ) (o : Option Refusal) (p : Plan) → Ok p ≡ plan_for w b o → Planned w b o p
unfolding is_plan plan_in
plan_some w b None p h = record { none_said = refl; rows = ap (λ (x : Result Plan Refusal). (plan_in x).rows) h; edges = ap (λ (x : Result Plan Refusal). (plan_in x).edges) h }
plan_some w b (Some x) p h = clash {b = true} refl (ap is_plan h)

module _ (w : ℕ) (b s s' : List ℕ) (r : Result Plan Refusal) (P : Plans w b s s' r) where
  pub rows-planned : (p : Plan) → r ≡ Ok p → Planned w b (refusal_for w b (length s)) p
  rows-planned p h = plan_some w b (refusal_for w b (length s)) p (sym h ∙ P.answer)

  pub plan-small : 20 ≤ w → (p : Plan) → r ≡ Ok p → (p.rows ≤ 699050) × (p.edges ≤ 178257750)
  plan-small wide q h =
      let p = rows-planned q h in
      let f = few-entries w b wide (accepted w b (length s) p.none_said).small in
      (omega (arith, p.rows), omega (arith, p.edges, edges-all w b, edges_few w b (standing_entries w b)))

pub edges-small : (w : ℕ) (b : List ℕ) (h : Head) → head_read w b ≡ Some h → edges_count h.parents ≤ 255
edges-small w b h e = count-few h.parents (omega (arith, (head-told w b h e).count, lines_few w b))
