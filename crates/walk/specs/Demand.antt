-- The third demand on a walk: its premises, the commits to be handed out, and the claim about every list of calls.
-- Assumes nothing.
use Rattle.std.specs.Prelude.{◌≡◌, ◌⊎◌, ◌↔◌, ℕ, ◌≤◌, Bool, true, false, cond, ◌||◌, List, [], ◌∷◌, map, length, ℤ, None, Option, Some}
use Rattle.hash.specs.Bytes.{Id, among, if_some}
use Rattle.walk.specs.Settings.{timed, cutoff_of, not_before, only_first, followed}
use Rattle.walk.specs.Lookup.{World, Row, no_row, row, corrupt, good, from_store, Pair, lt_pair, no_generation, store_seconds, seconds_for}
use Rattle.walk.specs.State.{Walk, State}
use Rattle.walk.specs.Opening.{Input, walk_of, list_ids, refusal, P, distinct, open_walk, opened, width_in}
use Rattle.walk.specs.Next.{Answer, end, handed}
use Rattle.walk.specs.Calls.{answers}
use Rattle.walk.specs.Reach.{Mem, NoDup, links, Reaches}

-- ---- the premises

-- "readable in the book"
unfoldable pub Readable : World → Id → Type 0
Readable w x = (ps : List Id) × (p : Pair) × (from_store (w.store x) ≡ good ps p)

-- "Agreement: each reachable commit that the graph lists has there its book parents, in order, and its book seconds"; so its list is not
-- corrupt
pub record Agrees (w : World) (x : Id) : Type 0 where
  pub whole : w.graph x ≡ corrupt → ⊥
  pub same-parents : (ps : List (Id × ℤ)) (l : ℕ) (s : ℤ) → w.graph x ≡ row ps l s → map (λ p. p.0) ps ≡ links w x
  pub same-seconds : (ps : List (Id × ℤ)) (l : ℕ) (s : ℤ) → w.graph x ≡ row ps l s → store_seconds w x ≡ Some s

-- the level of a row; "Without a graph row the level is 0xFFFFFFFF"
unfoldable pub row_generation : Row → ℕ
row_generation no_row = no_generation
row_generation corrupt = no_generation
row_generation (row ps l s) = l

-- "the pair (level, seconds)"; "Its seconds are the book's"
unfoldable pub pair_at : World → Id → Pair
pair_at w x = record { generation = row_generation (w.graph x); time = seconds_for w x }

module _ (v : Walk) (tips : List Id) where
  -- reachable from the tips or hidden tips, all as lent
  unfoldable pub Region : Id → Type 0
  Region x = (t : Id) × (Mem t tips ⊎ Mem t v.hidden) × Reaches v.world x t

  -- "every commit reachable from the tips or hidden tips is readable in the book, … a graph file, if there is one, agrees with the book,
  -- and … the pair (level, seconds) falls strictly along each parent link among these commits"
  pub record Premises : Type 0 where
    pub readable : (x : Id) → Region x → Readable v.world x
    pub agrees : (x : Id) → Region x → Agrees v.world x
    pub falls : (x p : Id) → Region x → Mem p (links v.world x) → lt_pair (pair_at v.world p) (pair_at v.world x) ≡ true

  -- ---- what is to be handed out

  -- "Under a time order each remaining tip is read from the book alone; under a cutoff it stays if seconds ≥ cutoff."
  unfoldable pub tipStays : Id → Bool
  tipStays x = cond (timed v.settings.sorting) (if_some (store_seconds v.world x) false (λ t. not_before (cutoff_of v.settings.sorting) t)) true

  -- "These tips are admitted"
  pub record AdmittedTip (x : Id) : Type 0 where
    pub lent : Mem x tips
    pub not-excluded : among x v.excluded ≡ false
    pub stays : tipStays x ≡ true

  -- a "tip that the cutoff turned away"
  pub record Turned (x : Id) : Type 0 where
    pub lent : Mem x tips
    pub not-excluded : among x v.excluded ≡ false
    pub away : tipStays x ≡ false

  -- "A link to a parent is admitted if the mode follows it, the parent is not barred and is no tip that the cutoff turned away …, and,
  -- under a cutoff with All, its seconds ≥ cutoff."
  pub record AdmittedLink (x p : Id) : Type 0 where
    pub follows : Mem p (followed v.settings (links v.world x))
    pub not-excluded : among p v.excluded ≡ false
    pub not-turned : Turned p → ⊥
    pub in_time : (only_first v.settings || not_before (cutoff_of v.settings.sorting) (seconds_for v.world p)) ≡ true

  -- "reachable from an admitted tip over admitted links"
  pub data Admitted : Id → Type 0 where
    tip : {x : Id} → AdmittedTip x → Admitted x
    link : {x p : Id} → Admitted x → AdmittedLink x p → Admitted p

  -- reachable from a hidden tip
  unfoldable pub Hidden : Id → Type 0
  Hidden x = (h : Id) × Mem h v.hidden × Reaches v.world x h

  -- "reachable from an admitted tip over admitted links and from no hidden tip"
  unfoldable pub Listed : Id → Type 0
  Listed x = Admitted x × (Hidden x → ⊥)

-- ---- the claim

-- the answers hand out the ids of a list in order, and then say end: none is a refusal
pub data Hands : List Id → List Answer → Type 0 where
  no_more-calls : {l : List Id} → Hands l []
  hands : {x : Id} {l : List Id} {a : Answer} {rest : List Answer} (g : Option ℕ) (t : Option ℤ)
      → a.kind ≡ handed x g t → Hands l rest → Hands (x ∷ l) (a ∷ rest)
  ends : {a : Answer} {rest : List Answer} → a.kind ≡ end → Hands [] rest → Hands [] (a ∷ rest)

-- The opening is accepted, and there is one list of different ids, those to be handed out and no others, and for every number of calls the
-- answers hand it out from the front, and then say end: with n its length, "the first n, or all if the calls are fewer, hand out different
-- ones of these n, so n calls hand out exactly them, each once. Every answer after the first n says end, and no answer is a refusal."
pub record Delivers (i : Input) : Type 0 where
  pub state : State
  pub accepted : open_walk i true ≡ opened state
  pub list : List Id
  pub different : NoDup list
  pub exactly : (x : Id) → Mem x list ↔ Listed (walk_of i) (list_ids (width_in i) i.tips) x
  pub within : length list ≤ P i
  pub handed_out : (k : ℕ) → Hands list (answers i k)

-- under the premises, "an opening to which none of 01's 1 to 6 applies"
unfoldable pub Third : Input → Type 0
Third i = refusal i ≡ None → Premises (walk_of i) (list_ids (width_in i) i.tips) → Delivers i

-- the same with weaker premises: they are asked of what is reachable from the hidden tips and from the tips that are left once "[t]ips lose
-- repeats and barred ids", and of nothing that only an excluded tip reaches
unfoldable pub ThirdOfKept : Input → Type 0
ThirdOfKept i = refusal i ≡ None → Premises (walk_of i) (distinct [] (walk_of i).excluded (list_ids (width_in i) i.tips)) → Delivers i
