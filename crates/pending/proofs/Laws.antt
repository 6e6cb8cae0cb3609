-- For callers of painting's queue: its length and members, the empty queue, what may change elsewhere, and how it stands to a queue
-- of other things than slots. Each follows from what merging two runs keeps. Assumes nothing.
use mathlib.Core.Path.{◌≡◌, refl, sym, ap, ◌∙◌, subst}
use mathlib.Core.Logic.{◌⊎◌, inl, inr, ⊎_elim}
use mathlib.Core.List.{List, [], ◌∷◌, ◌++◌, map}
use mathlib.Core.Bool.{Bool, true, false, cond, not}
use Prim.Native.Nat.{ℕ, suc, ◌+◌, ◌-◌, ◌≤◌, ◌<◌}
use native.Mathlib.Omega.{arith}
use lib.IntN.{ℤ}
use lib.ListN.{length, take, drop, get_or, set}
use lib.Seq.{slice, length-slice, take-take, drop-drop, get_or-take, get_or-set_other}
use Rattle.hash.specs.Bytes.{Id, lt_id}
use Rattle.hashtable.specs.Table.{id_of}
use Rattle.pending.specs.declared.Pending.{Pending}
use Rattle.pending.specs.declared.Taken.{Taken}
use Rattle.revwalk.specs.Order.{seconds_of, insert_by, In}
use Rattle.pending.specs.Pending.{level_of, ahead, not_above, older_in, younger_in, slots_in, waiting, Right, Room, Entered, Took, fresh}
use Rattle.revwalk.proofs.QueueSorts.{in_insert, insert_in, length_insert}
use Rattle.pending.proofs.Ahead.{ahead_agree}
use Rattle.pending.proofs.Inserts.{slice_none, slice_first}
use Rattle.pending.proofs.Merges.{merge_none, length-merge, merge_in, merge-agree, fresh-merge}

-- ---- length, the empty queue, and where it may stand

module _ (levels : List ℕ) (times : List ℤ) (p : Pending) (line : List ℕ) where
  pub length-slots : Right p line → length (slots_in levels times p line) ≡ waiting p
  length-slots r =
      let a : p.high ≤ length line = omega (arith, r.apart, r.start, r.end) in
      length-merge (ahead levels times) (older_in p line) (younger_in p line)
      ∙ rw (length-slice p.low p.high line a, length-slice p.start p.end line r.end)

  pub empty-slots : waiting p ≡ 0 → slots_in levels times p line ≡ []
  empty-slots e =
      let a : p.high ≤ p.low = omega arith in
      let b : p.end ≤ p.start = omega arith in
      rw (slice_none p.low p.high line a, slice_none p.start p.end line b) (merge_none (ahead levels times) [])

  -- fewer wait than there are places
  pub few-room : Right p line → length (slots_in levels times p line) < p.end - p.base → Room p line
  few-room r l = record { right = r; free = omega (arith, length-slots r) }

pub lowered-right : (b : ℕ) (p : Pending) (line : List ℕ) → b ≤ p.base → Right p line → Right (record { base = b; low = p.low; high = p.high; start = p.start; end = p.end }) line
lowered-right b p line h r = record { base = omega (arith, r.base); low = r.low; apart = r.apart; start = r.start; end = r.end }

pub empty_right : (b e : ℕ) (line : List ℕ) → b ≤ e → e ≤ length line → Right (record { base = b; low = b; high = b; start = e; end = e }) line
empty_right b e line h k = record { base = omega arith; low = omega arith; apart = omega arith; start = omega arith; end = k }

-- ---- members

module _ {levels : List ℕ} {times : List ℤ} {x : ℕ} {p : Pending} {line : List ℕ} {r : Pending} {line' : List ℕ} (e : Entered levels times x p line r line') where
  pub length-pushed : length (slots_in levels times r line') ≡ suc (length (slots_in levels times p line))
  length-pushed = ap length e.slots ∙ length_insert (ahead levels times) x (slots_in levels times p line)

  pub in-pushed : (z : ℕ) → In z (slots_in levels times r line') → (z ≡ x) ⊎ In z (slots_in levels times p line)
  in-pushed z h = in_insert (ahead levels times) x z (slots_in levels times p line) (subst (In z) e.slots h)

  pub pushed-in : (z : ℕ) → (z ≡ x) ⊎ In z (slots_in levels times p line) → In z (slots_in levels times r line')
  pushed-in z h = subst (In z) (sym e.slots) (insert_in (ahead levels times) x z (slots_in levels times p line) h)

  -- what holds of the new slot and of all that wait holds of all that wait then
  pub pushed-all : (P : ℕ → Type 0) → P x → ((z : ℕ) → In z (slots_in levels times p line) → P z) → (z : ℕ) → In z (slots_in levels times r line') → P z
  pushed-all P b f z h = ⊎_elim (λ q. subst P (sym q) b) (f z) (in-pushed z h)

module _ {levels : List ℕ} {times : List ℤ} {p : Pending} {line : List ℕ} {r : Taken} (e : Took levels times p line r) where
  pub length_taken : length (slots_in levels times p line) ≡ suc (length (slots_in levels times r.pending line))
  length_taken = ap length e.slots

  pub in_taken : (z : ℕ) → In z (slots_in levels times p line) → (z ≡ r.slot) ⊎ In z (slots_in levels times r.pending line)
  unfolding In
  in_taken z h = subst (In z) e.slots h

  pub taken_in : (z : ℕ) → (z ≡ r.slot) ⊎ In z (slots_in levels times r.pending line) → In z (slots_in levels times p line)
  unfolding In
  taken_in z h = subst (In z) (sym e.slots) h

  -- what holds of all that wait holds of the one that leaves, and of the rest
  pub taken-all : (P : ℕ → Type 0) → ((z : ℕ) → In z (slots_in levels times p line) → P z) → P r.slot × ((z : ℕ) → In z (slots_in levels times r.pending line) → P z)
  taken-all P f = (f r.slot (taken_in r.slot (inl refl)), λ z h. f z (taken_in z (inr h)))

-- ---- levels, seconds and marks of slots that do not wait may change

-- a level, a second or a mark given to a slot that does not wait is not that of one that does
pub set_agree : {A : Type 0} (list : List A) (s : ℕ) (v d : A) (l : List ℕ) → (In s l → ⊥) → (y : ℕ) → In y l → get_or (set list s v) y d ≡ get_or list y d
set_agree list s v d l n y h = get_or-set_other list s y v d (λ e. n (subst (λ (k : ℕ). In k l) e h))

-- the order in which slots leave is told by the levels and the seconds of those that wait
pub slots_frame : (levels levels' : List ℕ) (times times' : List ℤ) (p : Pending) (line : List ℕ)
    → ((s : ℕ) → In s (slots_in levels times p line) → (level_of levels' s ≡ level_of levels s) × (seconds_of times' s ≡ seconds_of times s))
    → slots_in levels' times' p line ≡ slots_in levels times p line
slots_frame levels levels' times times' p line same =
    merge-agree (ahead levels' times') (ahead levels times) (older_in p line) (younger_in p line) (λ x i y j.
    let a = same y (merge_in (ahead levels times) y (older_in p line) (younger_in p line) (inl j)) in
    let b = same x (merge_in (ahead levels times) x (older_in p line) (younger_in p line) (inr i)) in
    ahead_agree levels' levels times' times y x a.0 b.0 a.1 b.1)

-- whether a slot that waits lacks a mark is told by the two runs
pub fresh-slots : (done : ℕ → Bool) (levels : List ℕ) (times : List ℤ) (p : Pending) (line : List ℕ)
    → fresh done (slots_in levels times p line) ≡ fresh done (younger_in p line ++ older_in p line)
fresh-slots done levels times p line = fresh-merge done (ahead levels times) (older_in p line) (younger_in p line)

pub map_agree : {B : Type 0} (f g : ℕ → B) (l : List ℕ) → ((y : ℕ) → In y l → f y ≡ g y) → map f l ≡ map g l
unfolding In
map_agree f g [] same = refl
map_agree {B} f g (y ∷ ys) same =
    ap (λ (b : B). b ∷ map f ys) (same y (inl refl)) ∙ ap (λ (t : List B). g y ∷ t) (map_agree f g ys (λ z h. same z (inr h)))

-- ---- the queue beside one of other things, as pairs and ids: f says what a slot stands for

module _ {B : Type 0} (f : ℕ → B) where
  -- ins is an insertion by an order, and slots are ordered as what they stand for
  pub insert-map : (lt : ℕ → ℕ → Bool) (gt : B → B → Bool) (ins : B → List B → List B) → ((b : B) → ins b [] ≡ b ∷ [])
      → ((b c : B) (l : List B) → ins b (c ∷ l) ≡ cond (gt b c) (b ∷ (c ∷ l)) (c ∷ ins b l))
      → (x : ℕ) (l : List ℕ) → ((y : ℕ) → In y l → lt x y ≡ gt (f x) (f y)) → map f (insert_by lt x l) ≡ ins (f x) (map f l)
  unfolding In insert_by
  insert-map lt gt ins nil cons x [] same = sym (nil (f x))
  insert-map lt gt ins nil cons x (y ∷ ys) same =
      go (lt x y) (insert-map lt gt ins nil cons x ys (λ z h. same z (inr h)))
      ∙ ap (λ (t : Bool). cond t (f x ∷ (f y ∷ map f ys)) (f y ∷ ins (f x) (map f ys))) (same y (inl refl))
      ∙ sym (cons (f x) (f y) (map f ys))
    where
      go : (t : Bool) → map f (insert_by lt x ys) ≡ ins (f x) (map f ys)
          → map f (cond t (x ∷ y ∷ ys) (y ∷ insert_by lt x ys)) ≡ cond t (f x ∷ (f y ∷ map f ys)) (f y ∷ ins (f x) (map f ys))
      go true r = refl
      go false r = ap (λ (s : List B). f y ∷ s) r

  pub fresh-map : (done : ℕ → Bool) (has : B → Bool) (any : List B → Bool) → any [] ≡ false → ((b : B) (l : List B) → any (b ∷ l) ≡ cond (has b) (any l) true)
      → (l : List ℕ) → ((y : ℕ) → In y l → done y ≡ has (f y)) → fresh done l ≡ any (map f l)
  unfolding In fresh
  fresh-map done has any nil cons [] same = sym nil
  fresh-map done has any nil cons (y ∷ ys) same =
      ap (λ (t : Bool). cond t (fresh done ys) true) (same y (inl refl))
      ∙ ap (λ (t : Bool). cond (has (f y)) t true) (fresh-map done has any nil cons ys (λ z h. same z (inr h)))
      ∙ sym (cons (f y) (map f ys))

-- the slots of a run, put in by their ids, beside an insertion of ids by the same order
pub insert_ids : (w : ℕ) (names : List ℕ) (ins : Id → List Id → List Id) → ((x : Id) → ins x [] ≡ x ∷ [])
    → ((x y : Id) (l : List Id) → ins x (y ∷ l) ≡ cond (lt_id y x) (y ∷ ins x l) (x ∷ (y ∷ l)))
    → (x : ℕ) (l : List ℕ) → map (id_of w names) (insert_by (not_above w names) x l) ≡ ins (id_of w names x) (map (id_of w names) l)
unfolding not_above
insert_ids w names ins nil cons x l =
    insert-map (id_of w names) (not_above w names) (λ a b. not (lt_id b a)) ins nil (λ a b m. cons a b m ∙ turn (lt_id b a) (b ∷ ins a m) (a ∷ (b ∷ m))) x l (λ y h. refl)
  where
    turn : (t : Bool) (a b : List Id) → cond t a b ≡ cond (not t) b a
    turn true a b = refl
    turn false a b = refl

-- ---- the memory elsewhere may change

module _ (line line' : List ℕ) (s : ℕ) where
  -- of memory that is as it was up to s
  pub slice-below : take s line' ≡ take s line → (f t : ℕ) → t ≤ s → slice f t line' ≡ slice f t line
  slice-below e f t h = ap (drop f) (sym (take-take t s line' h) ∙ ap (take t) e ∙ take-take t s line h)

  pub getD-below : take s line' ≡ take s line → (k : ℕ) → k < s → get_or line' k 0 ≡ get_or line k 0
  getD-below e k h = sym (get_or-take s line' k 0 h) ∙ ap (λ (l : List ℕ). get_or l k 0) e ∙ get_or-take s line k 0 h

  -- of memory that is as it was from s on
  pub drop-above : drop s line' ≡ drop s line → (f : ℕ) → s ≤ f → drop f line' ≡ drop f line
  drop-above e f h =
      let q : f ≡ s + (f - s) = omega arith in
      ap (λ (n : ℕ). drop n line') q
      ∙ sym (drop-drop (f - s) s line')
      ∙ ap (drop (f - s)) e
      ∙ drop-drop (f - s) s line
      ∙ ap (λ (n : ℕ). drop n line) (sym q)

  pub slice-above : drop s line' ≡ drop s line → (f t : ℕ) → s ≤ f → slice f t line' ≡ slice f t line
  slice-above e f t h = slice_first f t line' ∙ ap (take (t - f)) (drop-above e f h) ∙ sym (slice_first f t line)
