-- Painting over a list of commits, step by step: after i steps the memory reads as the painting over the first i commits. Where painting
-- is ended by a refusal, the steps that are left do nothing, in the memory and in the walk's painting alike. Assumes nothing.
use Rattle.std.specs.Prelude.{Option, Ok, Err}
use Rattle.commitgraph.specs.declared.Layout.{Layout}
use mathlib.Core.Path.{◌≡◌, refl, sym, ◌∙◌, ap, subst}
use Prim.Native.Nat.{ℕ, zero, suc, ◌+◌, ◌-◌, ◌≤◌, ◌<◌}
use mathlib.Core.Bool.{Bool, true, false}
use mathlib.Core.List.{List, [], ◌∷◌, ◌++◌, Memᴰ}
use native.Mathlib.Omega.{arith}
use lib.ListN.{length, take, get_or}
use lib.Seq.{take_all}
use Rattle.hash.specs.Bytes.{Id}
use Rattle.hash.proofs.Tests.{by_cases}
use Rattle.hashtable.specs.Table.{Table, mark_for, Finds}
use Rattle.hashtable.specs.declared.table.Slot.{Slot}
use Rattle.hashtable.specs.declared.table.Slot.TheVariants.{Found, Vacant, Full as TableFull}
use Rattle.hashtable.proofs.TableView.{found-mark, vacant-mark, mark-absent, full-absent}
use Rattle.pending.specs.declared.Pending.{Pending}
use Rattle.walk.specs.Lookup.{World, read, parents_of}
use Rattle.walk.specs.Painting.{Paint, Painting, stop, going, then, Marks, mark, mark_all, lacks, pass}
use Rattle.walk.specs.declared.Refusal.{Refusal}
use Rattle.reading.specs.Files.{world_under}
use Rattle.reading.specs.Whole.{parent_count, GivesParent}
use Rattle.reading.proofs.IdLists.{mem-at, one_more}
use Rattle.reading.specs.declared.Commit.{Commit}
use Rattle.object.specs.Ids.{id_in}
use Rattle.object.specs.declared.ObjectId.{ObjectId}
use Rattle.frontier.specs.declared.marking.MarkError.{MarkError}
use Rattle.frontier.specs.declared.marking.MarkError.TheVariants.{Stop, NoRoom}
use Rattle.frontier.specs.Bits.{marks_of, lacks_bits}
use Rattle.frontier.specs.Paint.{Marked, Lent, Files, PaintReads, Spares, Named, Goes, Stops, Ends}
use Rattle.frontier.specs.Mark.{Step, MayStep, Takes, pass_to, LacksMark}
use Rattle.frontier.specs.Parents.{HasParents}
use Rattle.frontier.specs.Lists.{Steps, MayTake, TakesAll, PassesAll}
use Rattle.frontier.proofs.MarkStep.{spares-none, spares_then}

-- ---- a part that goes on, and a part after it

pub ends-then : {width : ℕ} {w : World} {cap : ℕ} {u : List Id} {p p' : Pending} {m₀ m : Lent} {a b d : Painting} (m' : Lent) (r : Marked) → Goes width w cap u p m₀ m p' a → b ≡ d → Ends width w cap u p' m m' r b
    → Ends width w cap u p m₀ m' r d
ends-then {width} {cap = cap} {m = m} m' (Ok q) g e o = record {
  state = o.state;
  is = sym e ∙ o.is;
  reads = o.reads;
  named = o.named;
  spares = spares_then g.spares (subst (λ (k : ℕ). Spares width cap k m m') g.base o.spares);
  base = o.base ∙ g.base;
  end = o.end ∙ g.end;
}
ends-then {width} {cap = cap} {m = m} m' (Err (Stop n)) g e o = record {
  is = sym e ∙ o.is;
  table = o.table;
  spares = spares_then g.spares (subst (λ (k : ℕ). Spares width cap k m m') g.base o.spares);
}
ends-then {width} m' (Err NoRoom) g e o = o

-- nothing is done
pub goes-still : {width : ℕ} {w : World} {cap : ℕ} {u : List Id} {p : Pending} {m : Lent} {st : Paint} {a : Painting} → a ≡ going st → PaintReads width w cap m p st → Named width cap u m → Goes width w cap u p m m p a
goes-still {width} {cap = cap} {p = p} {m = m} {st = st} e r n = record { state = st; is = e; reads = r; named = n; spares = spares-none width cap p.base m; base = refl; end = refl }

-- ---- the two kinds of steps

-- the steps for a list and one commit more
abbrev pub Snoc : Step → Steps → Type 0
Snoc step steps = (w : World) (m : Marks) (xs : List Id) (x : Id) (st : Paint) → steps w m (xs ++ (x ∷ [])) st ≡ then (steps w m xs st) (λ st'. step w m x st')

abbrev pub Nil : Steps → Type 0
Nil steps = (w : World) (m : Marks) (st : Paint) → steps w m [] st ≡ going st

pub then_is : (f : Paint → Painting) (s : Paint) → then (going s) f ≡ f s
unfolding then
then_is f s = refl

pub then-stop : (n : Refusal) (f : Paint → Painting) → then (stop n) f ≡ stop n
unfolding then
then-stop n f = refl

pub then-going : (a : Painting) → then a (λ st. going st) ≡ a
unfolding then
then-going (stop n) = refl
then-going (going st) = refl

pub mark_all_nil : Nil mark_all
unfolding mark_all
mark_all_nil w m st = refl

pub pass_nil : Nil pass
unfolding pass
pass_nil w m st = refl

pub then-both : (a : Painting) (f h : Paint → Painting) (k : Paint → Painting) → ((st : Paint) → f st ≡ then (h st) k) → then a f ≡ then (then a h) k
unfolding then
then-both (stop n) f h k e = refl
then-both (going st) f h k e = e st

pub mark_all_snoc : Snoc mark mark_all
unfolding mark_all
mark_all_snoc w m [] x st = then-going (mark w m x st) ∙ sym (then_is (λ s. mark w m x s) st)
mark_all_snoc w m (y ∷ ys) x st =
    then-both (mark w m y st) (λ s. mark_all w m (ys ++ (x ∷ [])) s) (λ s. mark_all w m ys s) (λ s. mark w m x s) (λ s. mark_all_snoc w m ys x s)

-- one parent
pass-one : (w : World) (m : Marks) (x : Id) (st : Paint) → pass w m (x ∷ []) st ≡ pass_to w m x st
unfolding pass pass_to
pass-one w m x st = by_cases (lacks m x st) (λ e. rw e (then-going (mark w m x st))) (λ e. rw e)

pub pass_snoc : Snoc pass_to pass
unfolding pass
pass_snoc w m [] x st = pass-one w m x st ∙ sym (then_is (λ s. pass_to w m x s) st)
pass_snoc w m (y ∷ ys) x st =
    by_cases (lacks m y st)
    (λ e. rw e (then-both (mark w m y st) (λ s. pass w m (ys ++ (x ∷ [])) s) (λ s. pass w m ys s) (λ s. pass_to w m x s) (λ s. pass_snoc w m ys x s)))
    (λ e. rw e (pass_snoc w m ys x st))

-- ---- the first i commits of a list

-- painting over the first i commits has come to the memory m and the answer r
pub record Upto (width : ℕ) (steps : Steps) (w : World) (cap : ℕ) (m₀ m : Lent) (p : Pending) (xs : List Id) (bits i : ℕ) (r : Marked) : Type 0 where
  pub ends : (u : List Id) (st : Paint) → MayTake width steps w cap u m₀ p xs bits st → Ends width w cap u p m₀ m r (steps w (marks_of bits) (take i xs) st)

module _ (width : ℕ) (step : Step) (steps : Steps) (nil : Nil steps) (snoc : Snoc step steps) where
  pub upto_first : (w : World) (cap : ℕ) (m : Lent) (p : Pending) (xs : List Id) (bits : ℕ) → Upto width steps w cap m m p xs bits 0 (Ok p)
  upto_first w cap m p xs bits = record { ends = λ u st h. goes-still (nil w (marks_of bits) st) h.reads h.named }

  module _ {c : Option Layout} {g s : List ℕ} {cap : ℕ} {m₀ m m' : Lent} {p : Pending} {xs : List Id} {bits i : ℕ} {r' : Marked} {x : Id} (f : Files width c g s) (l : i < length xs) (wd : length x ≡ width)
      (here : (u : List Id) (st : Paint) (q : Pending) → MayTake width steps (world_under width c g s) cap u m₀ p xs bits st
      → Goes width (world_under width c g s) cap u p m₀ m q (steps (world_under width c g s) (marks_of bits) (take i xs) st) → x ≡ get_or xs i []) where
    pub next-going : (q : Pending) → Upto width steps (world_under width c g s) cap m₀ m p xs bits i (Ok q) → Takes width step c g s cap m m' q x bits r'
        → Upto width steps (world_under width c g s) cap m₀ m' p xs bits (i + 1) r'
    next-going q so o = record {
      ends = λ u st h.
          let gone = so.ends u st h in
          let e : x ≡ get_or xs i [] = here u st q h gone in
          let k : steps (world_under width c g s) (marks_of bits) (take (i + 1) xs) st ≡ step (world_under width c g s) (marks_of bits) x gone.state =
          ap (λ (l : List Id). steps (world_under width c g s) (marks_of bits) l st) (one_more xs i l ∙ ap (λ (y : Id). take i xs ++ (y ∷ [])) (sym e))
          ∙ snoc (world_under width c g s) (marks_of bits) (take i xs) x st
          ∙ ap (λ (a : Painting). then a (λ st'. step (world_under width c g s) (marks_of bits) x st')) gone.is
          ∙ then_is (λ st'. step (world_under width c g s) (marks_of bits) x st') gone.state in
          ends-then m' r' gone (sym k)
          (o.right f u gone.state
          (record {
            reads = gone.reads;
            named = gone.named;
            in_u = h.in_u x (subst (λ (y : Id). Memᴰ y xs) (sym e) (mem-at xs i l));
            wide = wd;
            some-mark = h.some-mark;
            room = λ st' d. omega (arith, h.room (i + 1) st' (k ∙ d), gone.base, gone.end);
          }));
    }

  -- where painting is ended by a refusal, the commits that are left change nothing
  stop_stays : (w : World) (m : Marks) (xs : List Id) (st : Paint) (n : Refusal) (i d : ℕ) → i + d ≤ length xs → steps w m (take i xs) st ≡ stop n → steps w m (take (i + d) xs) st ≡ stop n
  stop_stays w m xs st n i zero l e = let k : i + 0 ≡ i = omega arith in ap (λ (j : ℕ). steps w m (take j xs) st) k ∙ e
  stop_stays w m xs st n i (suc d) l e =
      let k : i + suc d ≡ i + d + 1 = omega arith in
      ap (λ (j : ℕ). steps w m (take j xs) st) k
      ∙ ap (λ (l : List Id). steps w m l st) (one_more xs (i + d) (omega arith))
      ∙ snoc w m (take (i + d) xs) (get_or xs (i + d) []) st
      ∙ ap (λ (a : Painting). then a (λ st'. step w m (get_or xs (i + d) []) st')) (stop_stays w m xs st n i d (omega arith) e)
      ∙ then-stop n (λ st'. step w m (get_or xs (i + d) []) st')

  pub upto_stop : {w : World} {cap : ℕ} {m₀ m : Lent} {p : Pending} {xs : List Id} {bits i : ℕ} (e : MarkError) → Upto width steps w cap m₀ m p xs bits i (Err e) → i ≤ length xs
      → (u : List Id) (st : Paint) → MayTake width steps w cap u m₀ p xs bits st → Ends width w cap u p m₀ m (Err e) (steps w (marks_of bits) xs st)
  upto_stop {w} {xs = xs} {bits} {i} (Stop n) so l u st h =
      let gone = so.ends u st h in
      let k : i + (length xs - i) ≡ length xs = omega arith in
      record {
        is = ap (λ (ys : List Id). steps w (marks_of bits) ys st) (sym (take_all (i + (length xs - i)) xs (omega arith)))
            ∙ stop_stays w (marks_of bits) xs st n i (length xs - i) (omega arith) gone.is;
        table = gone.table;
        spares = gone.spares;
      }
  upto_stop NoRoom so l u st h = absurd (so.ends u st h)

  -- all of them
  pub upto_last : {w : World} {cap : ℕ} {m₀ m : Lent} {p : Pending} {xs : List Id} {bits i : ℕ} {r : Marked} → Upto width steps w cap m₀ m p xs bits i r → length xs ≤ i
      → (u : List Id) (st : Paint) → MayTake width steps w cap u m₀ p xs bits st → Ends width w cap u p m₀ m r (steps w (marks_of bits) xs st)
  upto_last {w} {cap} {m₀} {m} {p} {xs} {bits} {i} {r} so l u st h =
      subst (λ (ys : List Id). Ends width w cap u p m₀ m r (steps w (marks_of bits) ys st)) (take_all i xs l) (so.ends u st h)

-- ---- a loop over a list

-- the lengths of the buffers do not change
pub record Long (m₀ m : Lent) : Type 0 where
  pub names : length m.names ≡ length m₀.names
  pub marks : length m.marks ≡ length m₀.marks
  pub levels : length m.levels ≡ length m₀.levels
  pub times : length m.times ≡ length m₀.times
  pub line : length m.line ≡ length m₀.line

-- a loop over the list xs, after i of n turns
pub record Turning (width : ℕ) (steps : Steps) (c : Option Layout) (g s : List ℕ) (cap : ℕ) (m₀ m : Lent) (p : Pending) (xs : List Id) (bits n i : ℕ) (q : Pending) : Type 0 where
  pub long : Long m₀ m
  pub begun : Files width c g s → Upto width steps (world_under width c g s) cap m₀ m p xs bits i (Ok q)

pub long-none : (m : Lent) → Long m m
long-none m = record { names = refl; marks = refl; levels = refl; times = refl; line = refl }

pub long-then : {a b d : Lent} → Long a b → Long b d → Long a d
long-then p q = record { names = q.names ∙ p.names; marks = q.marks ∙ p.marks; levels = q.levels ∙ p.levels; times = q.times ∙ p.times; line = q.line ∙ p.line }

module _ (width : ℕ) (step : Step) (steps : Steps) (nil : Nil steps) (snoc : Snoc step steps) where
  pub on-first : (c : Option Layout) (g s : List ℕ) (cap : ℕ) (m : Lent) (xs : List Id) (bits n : ℕ) (p : Pending) → Turning width steps c g s cap m m p xs bits n 0 p
  on-first c g s cap m xs bits n p = record { long = long-none m; begun = λ f. upto_first width step steps nil snoc (world_under width c g s) cap m p xs bits }

  module _ {c : Option Layout} {g s : List ℕ} {cap : ℕ} {m₀ m : Lent} {p : Pending} {xs : List Id} {bits n i : ℕ} {q : Pending} (v : Turning width steps c g s cap m₀ m p xs bits n i q) where
    one : {m' : Lent} {r : Marked} {x : Id} → i < n → n ≡ length xs → length x ≡ width → x ≡ get_or xs i [] → Takes width step c g s cap m m' q x bits r → Files width c g s
        → Upto width steps (world_under width c g s) cap m₀ m' p xs bits (i + 1) r
    one l z wd e o f = next-going width step steps nil snoc f (omega arith) wd (λ u st q h gone. e) q (v.begun f) o

    pub on-next : {m' : Lent} {q' : Pending} {x : Id} → i < n → n ≡ length xs → length x ≡ width → x ≡ get_or xs i [] → Long m m' → Takes width step c g s cap m m' q x bits (Ok q')
        → Turning width steps c g s cap m₀ m' p xs bits n (i + 1) q'
    on-next l z wd e b o = record { long = long-then v.long b; begun = one l z wd e o }

    -- a commit at which painting ends
    pub on-stop : {m' : Lent} {e : MarkError} {x : Id} → i < n → n ≡ length xs → length x ≡ width → x ≡ get_or xs i [] → Takes width step c g s cap m m' q x bits (Err e)
        → TakesAll width steps c g s cap m₀ m' p xs bits (Err e)
    on-stop {e = e} l z wd k o = record { right = λ f. upto_stop width step steps nil snoc e (one l z wd k o f) (omega arith) }

    pub on-last : n ≤ i → n ≡ length xs → TakesAll width steps c g s cap m₀ m p xs bits (Ok q)
    on-last l z = record { right = λ f. upto_last width step steps nil snoc (v.begun f) (omega arith) }

-- ---- one parent

pub lacks-is : {width : ℕ} {w : World} {cap : ℕ} {m : Lent} {p : Pending} {st : Paint} (x : Id) (bits : ℕ) → PaintReads width w cap m p st
    → lacks (marks_of bits) x st ≡ lacks_bits bits (mark_for width false m.names m.marks cap x)
unfolding lacks lacks_bits
lacks-is {width} x bits r = rw (r.vis x, r.hid x, r.stale x)

pass-yes : (w : World) (m : Marks) (x : Id) (st : Paint) → lacks m x st ≡ true → pass_to w m x st ≡ mark w m x st
unfolding pass_to
pass-yes w m x st e = rw e

pass-not : (w : World) (m : Marks) (x : Id) (st : Paint) → lacks m x st ≡ false → pass_to w m x st ≡ going st
unfolding pass_to
pass-not w m x st e = rw e

module _ {width : ℕ} {names marks : List ℕ} {cap : ℕ} {x : Id} {bits : ℕ} {b : Bool} (v : LacksMark width names marks cap x bits b) where
  told-lacks : {w : World} {m : Lent} {p : Pending} {st : Paint} → m.names ≡ names → m.marks ≡ marks → PaintReads width w cap m p st → lacks (marks_of bits) x st ≡ b
  told-lacks {w} {m} {p} {st} i j r =
      lacks-is x bits r
      ∙ ap (λ (l : List ℕ). lacks_bits bits (mark_for width false l m.marks cap x)) i
      ∙ ap (λ (l : List ℕ). lacks_bits bits (mark_for width false names l cap x)) j
      ∙ sym (v.right (subst (λ (l : List ℕ). Table width false names l cap) j (subst (λ (l : List ℕ). Table width false l m.marks cap) i r.table)))

  pub passes-mark : {c : Option Layout} {g s : List ℕ} {m m' : Lent} {p : Pending} {r : Marked} → m.names ≡ names → m.marks ≡ marks → b ≡ true → Takes width mark c g s cap m m' p x bits r
      → Takes width pass_to c g s cap m m' p x bits r
  passes-mark {c} {g} {s} {m} {m'} {p} {r} i j e o = record {
    right = λ f u st h.
        let k = pass-yes (world_under width c g s) (marks_of bits) x st (told-lacks i j h.reads ∙ e) in
        subst (λ (a : Painting). Ends width (world_under width c g s) cap u p m m' r a) (sym k)
        (o.right f u st (subst (λ (a : Painting). MayStep width (world_under width c g s) cap u m p x bits st a) k h));
  }

  pub passes_none : {c : Option Layout} {g s : List ℕ} {m : Lent} {p : Pending} → m.names ≡ names → m.marks ≡ marks → b ≡ false → Takes width pass_to c g s cap m m p x bits (Ok p)
  passes_none {c} {g} {s} {m} {p} i j e = record {
    right = λ f u st h. goes-still (pass-not (world_under width c g s) (marks_of bits) x st (told-lacks i j h.reads ∙ e)) h.reads h.named;
  }

module _ {width : ℕ} {names marks : List ℕ} {cap : ℕ} {x : Id} {a : Slot} (bits : ℕ) (f : Finds width false names marks cap x a) where
  pub lacks-found : {b : Bool} {v : ℕ} (k : ℕ) → a ≡ Found k → b ≡ lacks_bits bits v → v ≡ get_or marks k 0 → LacksMark width names marks cap x bits b
  lacks-found k e p q = record { right = λ t. p ∙ ap (lacks_bits bits) (q ∙ sym (found-mark t f k e)) }

  pub lacks-vacant : {b : Bool} (k : ℕ) → a ≡ Vacant k → b ≡ lacks_bits bits 0 → LacksMark width names marks cap x bits b
  lacks-vacant k e p = record { right = λ t. p ∙ ap (lacks_bits bits) (sym (vacant-mark t f k e)) }

  pub lacks-full : {b : Bool} → a ≡ TableFull → b ≡ lacks_bits bits 0 → LacksMark width names marks cap x bits b
  lacks-full e p = record { right = λ t. p ∙ ap (lacks_bits bits) (sym (mark-absent (full-absent t f e))) }

-- ---- the parents of a commit

-- a loop over the parents of d, after i of them
pub record Passing (width : ℕ) (c : Option Layout) (g s : List ℕ) (cap : ℕ) (m₀ m : Lent) (p : Pending) (d : Commit) (bits i : ℕ) (q : Pending) : Type 0 where
  pub long : Long m₀ m
  pub begun : Files width c g s → (y : Id) → HasParents width c g s y d → Upto width pass (world_under width c g s) cap m₀ m p (parents_of (read (world_under width c g s) y)) bits i (Ok q)

pub passing_first : (width : ℕ) (c : Option Layout) (g s : List ℕ) (cap : ℕ) (m : Lent) (p : Pending) (d : Commit) (bits : ℕ) → Passing width c g s cap m m p d bits 0 p
passing_first width c g s cap m p d bits = record {
  long = long-none m;
  begun = λ f y i. upto_first width pass_to pass pass_nil pass_snoc (world_under width c g s) cap m p (parents_of (read (world_under width c g s) y)) bits;
}

module _ {width : ℕ} {c : Option Layout} {g s : List ℕ} {cap : ℕ} {m₀ m : Lent} {p : Pending} {d : Commit} {bits i : ℕ} {q : Pending} (v : Passing width c g s cap m₀ m p d bits i q) where
  passed-one : {m' : Lent} {r : Marked} {z : ObjectId} {x : Id} → i < parent_count d → x ≡ id_in width z.bytes → length x ≡ width → GivesParent width c g s d i z → Takes width pass_to c g s cap m m' q x bits r
      → Files width c g s → (y : Id) → HasParents width c g s y d → Upto width pass (world_under width c g s) cap m₀ m' p (parents_of (read (world_under width c g s) y)) bits (i + 1) r
  passed-one {z = z} l a wd k o f y h =
      next-going width pass_to pass pass_nil pass_snoc f (omega (arith, h.count)) wd (λ u st q j gone. a ∙ h.each i z l k) q (v.begun f y h) o

  pub passing_next : {m' : Lent} {q' : Pending} {z : ObjectId} {x : Id} → i < parent_count d → x ≡ id_in width z.bytes → length x ≡ width → GivesParent width c g s d i z → Long m m'
      → Takes width pass_to c g s cap m m' q x bits (Ok q') → Passing width c g s cap m₀ m' p d bits (i + 1) q'
  passing_next l a wd k b o = record { long = long-then v.long b; begun = passed-one l a wd k o }

  pub passing_stop : {m' : Lent} {e : MarkError} {z : ObjectId} {x : Id} → i < parent_count d → x ≡ id_in width z.bytes → length x ≡ width → GivesParent width c g s d i z
      → Takes width pass_to c g s cap m m' q x bits (Err e) → PassesAll width c g s cap m₀ m' p d bits (Err e)
  passing_stop {e = e} l a wd k o = record { right = λ f y h. upto_stop width pass_to pass pass_nil pass_snoc e (passed-one l a wd k o f y h) (omega (arith, h.count)) }

  pub passing_last : parent_count d ≤ i → PassesAll width c g s cap m₀ m p d bits (Ok q)
  passing_last l = record { right = λ f y h. upto_last width pass_to pass pass_nil pass_snoc (v.begun f y h) (omega (arith, h.count)) }
