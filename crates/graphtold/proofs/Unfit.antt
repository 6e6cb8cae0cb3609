-- 18 is said exactly of an unfit store: the tests of readability, of absent parents and of levels are complete, the last since a level is at most the
-- number of entries. Assumes nothing.
use Rattle.std.specs.Prelude.{None, Option, Some, Ok, Err}
use mathlib.Core.Path.{◌≡◌, refl, sym, ◌∙◌, ap}
use mathlib.Core.Bool.{Bool, true, false, cond}
use mathlib.Core.List.{List, []}
use Prim.Native.Nat.{ℕ, zero, suc, ◌≤◌, ◌<◌}
use native.Mathlib.Omega.{arith}
use lib.ListN.{length, get_or}
use lib.Dec.{ltb, leb}
use borrow.Author.Tests.{le-ltb, leb-false, ltb-false}
use Rattle.hash.specs.Bytes.{Id, if_some}
use Rattle.hash.proofs.Tests.{by_cases, clash, not_yes, guard_test, guarded}
use Rattle.idlist.specs.IdList.{id_of, find_in}
use Rattle.idlist.proofs.Answer.{find-hit, find_none, none_found}
use Rattle.date.specs.declared.Stamp.{Stamp}
use Rattle.object.specs.Header.{header}
use Rattle.object.specs.Read.{reading_of, Reading}
use Rattle.odb.specs.Store.{entry_ids, standing_entries, store_is_ok}
use Rattle.odb.specs.Lookup.{entry_id, entry_body}
use Rattle.odb.proofs.Nth.{own-id}
use Rattle.levels.specs.Levels.{Graph, all_below, sound_at, fit, most_parents}
use Rattle.levels.specs.StoreGraph.{lines_in, lines_count, entry_of, graph_in}
use Rattle.levels.proofs.Rules.{all-at, of_fit, of_sound}
use Rattle.levels.proofs.Lines.{lines_few, count_none}
use Rattle.walk.specs.declared.Refusal.TheVariants.{BufferTooSmall, InputTooLarge, CorruptStore, UnfitStore, UnfitSeconds}
use Rattle.graphplan.specs.StoreRows.{is_readable, readable_body, all_readable, all_in_time, fit_store}
use Rattle.graphplan.specs.Refusing.{most_bytes, refusal_for}
use Rattle.graphplan.proofs.Heads.{ReadBody, read-body}
use Rattle.graphplan.proofs.Planning.{number, differ, accepted}
use Rattle.graphtold.specs.Told.{Unfit, unreadable, absent, no-levels, UnfitExactly, LevelsOnce}
use Rattle.graphtold.proofs.Counting.{fit_all, fit-rule, level-is}

-- a test that fails below n fails somewhere
pub some-not : (p : ℕ → Bool) (n : ℕ) → all_below p n ≡ false → (k : ℕ) × (k < n) × (p k ≡ false)
unfolding all_below
some-not p zero e = clash refl e
some-not p (suc n) e = go (all_below p n) (some-not p n) refl e
  where
    go : (t : Bool) → (all_below p n ≡ false → (k : ℕ) × (k < n) × (p k ≡ false)) → all_below p n ≡ t → cond t (p n) false ≡ false → (k : ℕ) × (k < suc n) × (p k ≡ false)
    go true again h d = (n, omega arith, d)
    go false again h d = let r = again h in (r.0, omega (arith, r.1), r.2)

-- ---- a readable entry

pub readable-body : (w : ℕ) (b : List ℕ) → readable_body w b ≡ true → (n : ℕ) × (s : Stamp) × ReadBody w b n s
unfolding readable_body
readable-body w b e = go (reading_of (header w b)) refl e
  where
    go : (r : Reading) → reading_of (header w b) ≡ r → is_readable r ≡ true → (n : ℕ) × (s : Stamp) × ReadBody w b n s
    go (Ok r) d h = (r.parents, r.stamp, read-body w b r.parents r.stamp d)
    go (Err e) d h = clash h refl

-- ---- an absent parent

-- no entry under x: its number is the number of entries
entry_absent : (w : ℕ) (b : List ℕ) (n : ℕ) (x : Id) → find_in (entry_ids w b) x (standing_entries w b) ≡ None → entry_of w b n x ≡ n
unfolding entry_of
entry_absent w b n x e = ap (λ (o : Option ℕ). if_some o n (λ k. k)) e

-- a number that is no entry's: no entry under x
absent-entry : (w : ℕ) (b : List ℕ) (x : Id) → standing_entries w b ≤ entry_of w b (standing_entries w b) x → find_in (entry_ids w b) x (standing_entries w b) ≡ None
unfolding entry_of
absent-entry w b x h = go (find_in (entry_ids w b) x (standing_entries w b)) refl h
  where
    go : (o : Option ℕ) → find_in (entry_ids w b) x (standing_entries w b) ≡ o → standing_entries w b ≤ if_some o (standing_entries w b) (λ k. k) → o ≡ None
    go None e d = refl
    go (Some k) e d = absurd (omega (arith, (find-hit (entry_ids w b) x (standing_entries w b) k e).0))

entry-id : (w : ℕ) (b : List ℕ) (k : ℕ) → k < standing_entries w b → id_of (entry_ids w b) k ≡ entry_id w b k
unfolding id_of entry_ids
entry-id w b k h = own-id w b k h

module _ (w : ℕ) (b : List ℕ) where
  abbrev g : Graph
  g = graph_in w b

  abbrev many : ℕ
  many = standing_entries w b

  -- ---- from the test to the reason

  not_sound : (k : ℕ) → k < many → readable_body w (entry_body w b k) ≡ true → sound_at g k ≡ false → Unfit w b
  unfolding sound_at
  not_sound k h r e =
      let t = (readable-body w (entry_body w b k) r).2 in
      let c : lines_count w (entry_body w b k) ≡ length (lines_in w (entry_body w b k)).ids = count_none w (entry_body w b k) t.more in
      by_cases (leb (lines_count w (entry_body w b k)) most_parents)
      (λ d.
      let a : all_below (λ j. ltb (g.parent k j) many) (lines_count w (entry_body w b k)) ≡ false = sym (ap (λ (x : Bool). cond x (all_below (λ j. ltb (g.parent k j) many) (lines_count w (entry_body w b k))) false) d) ∙ e in
      let s = some-not (λ j. ltb (g.parent k j) many) (lines_count w (entry_body w b k)) a in
      let f : find_in (entry_ids w b) (get_or (lines_in w (entry_body w b k)).ids s.0 []) many ≡ None = absent-entry w b (get_or (lines_in w (entry_body w b k)).ids s.0 []) (ltb-false (g.parent k s.0) many s.2) in
      let l : s.0 < length (header w (entry_body w b k)).ids = omega (arith, s.1, ap length t.ids) in
      absent k s.0 h l
      (λ q hq d'. find_none (entry_ids w b) (get_or (lines_in w (entry_body w b k)).ids s.0 []) many q f hq
      (entry-id w b q hq ∙ d' ∙ ap (λ (xs : List Id). get_or xs s.0 []) t.ids)))
      (λ d. absurd (omega (arith, leb-false (lines_count w (entry_body w b k)) most_parents d, lines_few w (entry_body w b k))))

  not-fit : all_readable w b many ≡ true → fit g ≡ false → Unfit w b
  unfolding all_readable
  not-fit r e =
      by_cases (all_below (sound_at g) many)
      (λ s. no-levels (λ lv rule. clash (fit_all g (record { sound = of_sound g s; levels = lv; rule = rule })) e))
      (λ s. let k = some-not (sound_at g) many s in
      not_sound k.0 k.1 (all-at (λ k. readable_body w (entry_body w b k)) many k.0 r k.1) k.2)

  not-readable : all_readable w b many ≡ false → Unfit w b
  unfolding all_readable
  not-readable e = let k = some-not (λ k. readable_body w (entry_body w b k)) many e in unreadable k.0 k.1 k.2

  not-fit-store : fit_store w b ≡ false → Unfit w b
  unfolding fit_store
  not-fit-store e =
      by_cases (all_readable w b many)
      (λ r. not-fit r (go (fit g) (all_readable w b many) r e))
      not-readable
    where
      go : (f r : Bool) → r ≡ true → cond f r false ≡ false → f ≡ false
      go true r h d = clash h d
      go false r h d = refl

  -- ---- from the reason to the test

  unfit-not : Unfit w b → fit_store w b ≡ true → ⊥
  unfolding fit_store all_readable
  unfit-not (unreadable k h e) t = clash (all-at (λ k. readable_body w (entry_body w b k)) many k (guarded (fit g) (all_readable w b many) t) h) e
  unfit-not (absent k j h l e) t =
      let r = (readable-body w (entry_body w b k) (all-at (λ k. readable_body w (entry_body w b k)) many k (guarded (fit g) (all_readable w b many) t) h)).2 in
      let ids = (lines_in w (entry_body w b k)).ids in
      let f : find_in (entry_ids w b) (get_or ids j []) many ≡ None =
      none_found (entry_ids w b) (get_or ids j []) many (λ q hq d. e q hq (sym (entry-id w b q hq) ∙ d ∙ ap (λ (xs : List Id). get_or xs j []) (sym r.ids))) in
      let p = (of_fit g (guard_test (fit g) (all_readable w b many) t)).sound.present k j h (omega (arith, l, ap length r.ids, count_none w (entry_body w b k) r.more)) in
      omega (arith, p, entry_absent w b many (get_or ids j []) f)
  unfit-not (no-levels e) t = let f = of_fit g (guard_test (fit g) (all_readable w b many) t) in e f.levels f.rule

-- ---- the number

fit-told : (l ok sh f t : Bool)
    → cond l (Some InputTooLarge) (cond ok (cond sh (Some BufferTooSmall) (cond f (cond t None (Some UnfitSeconds)) (Some UnfitStore))) (Some CorruptStore)) ≡ Some UnfitStore → f ≡ false
unfolding number
fit-told true ok sh f t e = differ (Some InputTooLarge) (Some UnfitStore) (λ d. omega arith) e
fit-told false false sh f t e = differ (Some CorruptStore) (Some UnfitStore) (λ d. omega arith) e
fit-told false true true f t e = differ (Some BufferTooSmall) (Some UnfitStore) (λ d. omega arith) e
fit-told false true false false t e = refl
fit-told false true false true true e = differ None (Some UnfitStore) (λ d. omega arith) e
fit-told false true false true false e = differ (Some UnfitSeconds) (Some UnfitStore) (λ d. omega arith) e

pub levels_or_none : (w : ℕ) (b : List ℕ) (lent : ℕ) → UnfitExactly w b lent
unfolding refusal_for
levels_or_none w b lent =
    record {
      told = λ e. not-fit-store w b (fit-told (ltb most_bytes (length b)) (store_is_ok w b) (ltb lent (standing_entries w b)) (fit_store w b) (all_in_time w b (standing_entries w b)) e);
      only = λ small ok room u. rw (le-ltb most_bytes (length b) small, ok, le-ltb lent (standing_entries w b) room, not_yes (unfit-not w b u));
    }

pub levels-once : (w : ℕ) (b : List ℕ) (lent : ℕ) → refusal_for w b lent ≡ None → LevelsOnce w b
levels-once w b lent e =
    let t = (accepted w b lent e).fits in
    let f = of_fit (graph_in w b) t in
    record { rule = fit-rule (graph_in w b) t; once = λ lv rule k h. sym (level-is (graph_in w b) lv rule f.sound k h) }
