-- Two walks beside one another, with hidden tips and with none. What is hidden has hidden parents alone, so a commit that is not hidden is seen, and
-- waits, by commits that are not hidden: the queue with hidden tips is the other without the hidden commits, and stays so whichever commit the other
-- takes. Assumes nothing.
use mathlib.Core.Path.{◌≡◌, refl, sym, ◌∙◌, ap, subst}
use mathlib.Core.Logic.{⊎_elim}
use Prim.Native.Nat.{ℕ}
use mathlib.Core.Bool.{Bool, true, false, cond, not, ◌||◌}
use mathlib.Core.List.Memᴰ
use mathlib.Core.List.{List, [], ◌∷◌, map}
use native.Mathlib.Omega.{arith}
use lib.IntN.{ℤ, pos}
use Rattle.hash.specs.Bytes.{Id, eq_id}
use Rattle.hash.proofs.Tests.{by_cases, clash, not_yes}
use Rattle.hash.proofs.Ids.{eq_id_eq}
use Rattle.walk.specs.declared.Settings.{Settings}
use Rattle.walk.specs.Settings.{by_time, goes_before, followed, only_first, not_before, cutoff_of}
use Rattle.walk.specs.Lookup.{World, seconds_for}
use Rattle.walk.specs.State.{Walk, State, ids, add, enter, sees, waits, with_queue}
use Rattle.walk.specs.Next.{admits, visit, visit_all, outside, take_next}
use Rattle.walk.specs.Reach.{Mem, links}
use Rattle.walk.specs.Demand.{Premises, Turned}
use Rattle.walk.proofs.Laws.{Coherent, or_neither, add-keeps, add-other}
use Rattle.walk.proofs.Queue.{Away, link, admits-both}
use Rattle.walk.proofs.Take.{followed_sub}
use Rattle.hiding.proofs.Sets.{walk}
use Rattle.hidingorder.specs.Order.{those}
use Rattle.hidingorder.proofs.Those.{those_keep, those_drop}
use Rattle.hidingorder.proofs.Ordered.{ranks, Ordered, queued-ordered, outside-queued, outside-gone, outside-first, outside-rest, outside-none}
use Rattle.hidingorder.proofs.Going.{parents_due, Going, ended, taken, goes}

or_same : {a b c d : Bool} → a ≡ c → b ≡ d → (a || b) ≡ (c || d)
or_same p q = rw (p, q)

add_same : (f g : Id → Bool) (p x : Id) → f x ≡ g x → add f p x ≡ add g p x
unfolding add
add_same f g p x e = ap (λ (r : Bool). cond (eq_id x p) true r) e

cons_not_nil {ℓ} : {X : Type ℓ} (x : Id) (l : List Id) → [] ≡ x ∷ l → X
cons_not_nil x l e = let z : ◌≡◌ {A = ℕ} 0 1 = cc in absurd (omega arith)

cons_first : {x y : Id} {l m : List Id} → x ∷ l ≡ y ∷ m → x ≡ y
cons_first e = cc

cons_rest : {x y : Id} {l m : List Id} → x ∷ l ≡ y ∷ m → l ≡ m
cons_rest e = cc

-- parents as due are links that are followed
due_link : (v : Walk) (f : Id → ℤ) (l : List Id) (p : Id × ℤ) → Mem p (map (λ (x : Id). (x, f x)) l) → Mem p.0 l × (p.1 ≡ f p.0)
due_link v f [] p m = absurd (Memᴰ.not-nil m)
due_link v f (x ∷ l) p m =
    ⊎_elim
    (λ e. (Memᴰ.head (ap (λ (q : Id × ℤ). q.0) e), ap (λ (q : Id × ℤ). q.1) e ∙ sym (ap (λ (q : Id × ℤ). f q.0) e)))
    (λ k. let r = due_link v f l p k in (Memᴰ.tail r.0, r.1))
    (Memᴰ.cases_cons m)

pub parents-due : (v : Walk) (x : Id) (p : Id × ℤ) → Mem p (parents_due v x) → Mem p.0 (followed v.settings (links v.world x)) × (p.1 ≡ seconds_for v.world p.0)
unfolding parents_due
parents-due v x p m = due_link v (seconds_for v.world) (followed v.settings (links v.world x)) p m

-- ---- the walks a and b, with the hidden tips h and k; hid has what a hides, and b hides nothing

module _ (w : World) (s : Settings) (e tips h k : List Id) (fa fb : ℕ) (hid : Id → Bool) where
  abbrev pub va : Walk
  va = walk w s e h fa

  abbrev pub vb : Walk
  vb = walk w s e k fb

  pub record Alike (a b : State) : Type 0 where
    pub queue-is : a.queue ≡ outside hid b.queue
    pub seen-is : (x : Id) → hid x ≡ false → a.seen x ≡ b.seen x
    pub no_front : (x : Id) → b.frontier x ≡ false
    pub ordered : Ordered (goes_before s) b.queue

  other : {x p : Id} → hid x ≡ false → hid p ≡ true → eq_id x p ≡ false
  other {x} {p} n k = not_yes (λ q. clash (ap hid (eq_id_eq x p q) ∙ k) n)

  -- b visits a hidden parent
  gone : (a b : State) (p : Id) (t : ℤ) → hid p ≡ true → Alike a b → Alike a (visit vb b p t)
  unfolding visit waits sees enter
  gone a b p t k i = go (b.frontier p || b.seen p) (admits vb p t)
    where
      seen-too : (x : Id) → hid x ≡ false → a.seen x ≡ add b.seen p x
      seen-too x n = i.seen-is x n ∙ sym (add-other b.seen p x (other n k))

      go : (m n : Bool) → Alike a (cond m b (cond n (waits vb b p t) (sees b p)))
      go true n = i
      go false true = record {
        queue-is = i.queue-is ∙ sym (outside-gone (goes_before s) (ranks s) hid (p, cond (by_time s) t (pos 0)) b.queue k);
        seen-is = seen-too;
        no_front = i.no_front;
        ordered = queued-ordered (goes_before s) (ranks s) (p, cond (by_time s) t (pos 0)) b.queue i.ordered;
      }
      go false false = record { queue-is = i.queue-is; seen-is = seen-too; no_front = i.no_front; ordered = i.ordered }

  all-gone : (ps : List (Id × ℤ)) (a b : State) → ((p : Id × ℤ) → Mem p ps → hid p.0 ≡ true) → Alike a b → Alike a (visit_all vb b ps)
  unfolding visit_all
  all-gone [] a b k i = i
  all-gone (p ∷ ps) a b k i = all-gone ps a (visit vb b p.0 p.1) (λ q m. k q (Memᴰ.tail m)) (gone a b p.0 p.1 (k p (Memᴰ.head refl)) i)

  -- front has what a's painting found
  module _ (front : Id → Bool) (apart : (x : Id) → Away va tips front x → hid x ≡ false) (front_out : (x : Id) → hid x ≡ false → front x ≡ false) where
    -- what a keeps: painting's frontier, and the tips that the cutoff turned away are seen
    pub record Marked (a : State) : Type 0 where
      pub is_front : (x : Id) → a.frontier x ≡ front x
      pub turned-seen : (x : Id) → Turned va tips x → a.seen x ≡ true

    still_marked : (a : State) (p : Id) (t : ℤ) → Marked a → Marked (visit va a p t)
    unfolding visit waits sees
    still_marked a p t q = go (a.frontier p || a.seen p) (admits va p t)
      where
        go : (m n : Bool) → Marked (cond m a (cond n (waits va a p t) (sees a p)))
        go true n = q
        go false true = record { is_front = q.is_front; turned-seen = λ x k. add-keeps a.seen p x (q.turned-seen x k) }
        go false false = record { is_front = q.is_front; turned-seen = λ x k. add-keeps a.seen p x (q.turned-seen x k) }

    -- a commit that a hands out, and a parent of it that is followed
    module _ (c : Id) (away : Away va tips front c) (p : Id) (t : ℤ) (follows : Mem p (followed s (links w c))) (its_own : t ≡ seconds_for w p) where
      -- a visits a hidden parent: it does not come to wait
      quiet : (a b : State) → hid p ≡ true → Marked a → Alike a b → Alike (visit va a p t) b
      unfolding visit waits sees
      quiet a b k q i = go (a.frontier p || a.seen p) refl (admits va p t) refl
        where
          go : (m : Bool) → (a.frontier p || a.seen p) ≡ m → (n : Bool) → admits va p t ≡ n → Alike (cond m a (cond n (waits va a p t) (sees a p))) b
          go true u n y = i
          go false u true y =
              let o = or_neither (a.frontier p) (a.seen p) u in
              let g = admits-both va p t y in
              clash k (apart p (link away (record {
                follows = follows;
                not-excluded = g.0;
                not-turned = λ z. clash (q.turned-seen p z) o.1;
                in_time = subst (λ (z : ℤ). (only_first s || not_before (cutoff_of s.sorting) z) ≡ true) its_own g.1;
              }) (sym (q.is_front p) ∙ o.0)))
          go false u false y = record {
            queue-is = i.queue-is;
            seen-is = λ x n. add-other a.seen p x (other n k) ∙ i.seen-is x n;
            no_front = i.no_front;
            ordered = i.ordered;
          }

      -- both visit a parent that is not hidden
      together : (a b : State) → hid p ≡ false → Marked a → Alike a b → Alike (visit va a p t) (visit vb b p t)
      unfolding visit waits sees enter admits
      together a b k q i =
          let u : (a.frontier p || a.seen p) ≡ (b.frontier p || b.seen p) = or_same (q.is_front p ∙ front_out p k ∙ sym (i.no_front p)) (i.seen-is p k) in
          subst (λ (m : Bool). Alike (cond m a (cond (admits va p t) (waits va a p t) (sees a p))) (visit vb b p t)) (sym u) (go (b.frontier p || b.seen p) (admits vb p t))
        where
          go : (m n : Bool) → Alike (cond m a (cond n (waits va a p t) (sees a p))) (cond m b (cond n (waits vb b p t) (sees b p)))
          go true n = i
          go false true =
              let x : Id × ℤ = (p, cond (by_time s) t (pos 0)) in
              record {
                queue-is = ap (enter va p t) i.queue-is ∙ sym (outside-queued (goes_before s) (ranks s) hid x b.queue k i.ordered);
                seen-is = λ y n. add_same a.seen b.seen p y (i.seen-is y n);
                no_front = i.no_front;
                ordered = queued-ordered (goes_before s) (ranks s) x b.queue i.ordered;
              }
          go false false = record { queue-is = i.queue-is; seen-is = λ y n. add_same a.seen b.seen p y (i.seen-is y n); no_front = i.no_front; ordered = i.ordered }

      either : (a b : State) → Marked a → Alike a b → Alike (visit va a p t) (visit vb b p t)
      either a b q i = by_cases (hid p) (λ k. gone (visit va a p t) b p t k (quiet a b k q i)) (λ k. together a b k q i)

    visits : (c : Id) → Away va tips front c → (ps : List (Id × ℤ)) → ((p : Id × ℤ) → Mem p ps → Mem p.0 (followed s (links w c)) × (p.1 ≡ seconds_for w p.0))
        → (a b : State) → Marked a → Alike a b → Alike (visit_all va a ps) (visit_all vb b ps)
    unfolding visit_all
    visits c away [] d a b q i = i
    visits c away (p ∷ ps) d a b q i =
        let f = d p (Memᴰ.head refl) in
        visits c away ps (λ y m. d y (Memᴰ.tail m)) (visit va a p.0 p.1) (visit vb b p.0 p.1) (still_marked a p.0 p.1 q)
        (either c away p.0 p.1 f.0 f.1 a b q i)

    -- ---- one commit is taken

    module _ (pre-a : Premises va tips) (pre-b : Premises vb tips) (co : Coherent w) (onward : (x p : Id) → hid x ≡ true → Mem p (links w x) → hid p ≡ true) (back : Id → Bool) where
      abbrev Ga : State → List Id → List Id → Type 0
      Ga st done l = Going va tips pre-a co front st done l

      abbrev Gb : State → List Id → List Id → Type 0
      Gb st done l = Going vb tips pre-b co back st done l

      module _ (a b : State) (i : Alike a b) (x : Id × ℤ) (q : List (Id × ℤ)) (is : b.queue ≡ x ∷ q) where
        behind : Ordered (goes_before s) q
        behind = (subst (Ordered (goes_before s)) is i.ordered).1

        -- b takes a hidden commit: a stays
        b-alone : (db lb : List Id) → hid x.0 ≡ true → Gb b db lb → Alike a (take_next vb b).state
        unfolding with_queue parents_due
        b-alone db lb k g =
            let r : Alike a (with_queue q b) = record {
              queue-is = i.queue-is ∙ ap (outside hid) is ∙ outside-rest hid x q k;
              seen-is = i.seen-is;
              no_front = i.no_front;
              ordered = behind;
            } in
            subst (Alike a) (sym (taken vb tips pre-b co back b db x q is lb g))
            (all-gone (parents_due vb x.0) a (with_queue q b) (λ p m. onward x.0 p.0 k (followed_sub s p.0 (links w x.0) (parents-due vb x.0 p m).0)) r)

        -- it stands first with a too, where it is not hidden
        a_first : hid x.0 ≡ false → a.queue ≡ x ∷ outside hid q
        a_first k = i.queue-is ∙ ap (outside hid) is ∙ outside-first hid x q k

        both-take : (da la db lb : List Id) (k : hid x.0 ≡ false) → Ga a da la → Gb b db lb → Alike (take_next va a).state (take_next vb b).state
        unfolding with_queue parents_due ids
        both-take da la db lb k g m =
            let r : Alike (with_queue (outside hid q) a) (with_queue q b) = record { queue-is = refl; seen-is = i.seen-is; no_front = i.no_front; ordered = behind } in
            let n : Marked (with_queue (outside hid q) a) = record { is_front = g.walked.is_front; turned-seen = g.walked.turned-seen } in
            let away : Away va tips front x.0 =
            g.walked.queue-away x.0 (subst (λ (l : List (Id × ℤ)). Mem x.0 (ids l)) (sym (a_first k)) (Memᴰ.head refl)) in
            subst (λ (z : State). Alike z (take_next vb b).state) (sym (taken va tips pre-a co front a da x (outside hid q) (a_first k) la g))
            (subst (λ (z : State). Alike (visit_all va (with_queue (outside hid q) a) (parents_due va x.0)) z) (sym (taken vb tips pre-b co back b db x q is lb m))
            (visits x.0 away (parents_due va x.0) (parents-due va x.0) (with_queue (outside hid q) a) (with_queue q b) n r))

      -- ---- all commits

      abbrev Same : List Id → Type 0
      Same lb = (a b : State) (la da db : List Id) → Alike a b → Ga a da la → Gb b db lb → la ≡ those (λ x. not (hid x)) lb

      none_left : Same []
      unfolding those
      none_left a b la da db i g k = go b.queue refl
        where
          go : (q : List (Id × ℤ)) → b.queue ≡ q → la ≡ []
          go [] is = ended va tips pre-a co front a da la g (i.queue-is ∙ ap (outside hid) is ∙ outside-none hid)
          go (x ∷ q) is = let r = goes vb tips pre-b co back b db x q is [] k in cons_not_nil x.0 r.0 r.1

      one_more : (y : Id) (lb : List Id) → Same lb → Same (y ∷ lb)
      one_more y lb rec a b la da db i g k = go b.queue refl
        where
          go : (q : List (Id × ℤ)) → b.queue ≡ q → la ≡ those (λ x. not (hid x)) (y ∷ lb)
          go [] is = cons_not_nil y lb (sym (ended vb tips pre-b co back b db (y ∷ lb) k is))
          go (x ∷ q) is =
              let r = goes vb tips pre-b co back b db x q is (y ∷ lb) k in
              let f : y ≡ x.0 = cons_first r.1 in
              let k₁ : Gb (take_next vb b).state (x.0 ∷ db) lb = subst (λ (l : List Id). Gb (take_next vb b).state (x.0 ∷ db) l) (sym (cons_rest r.1)) r.2 in
              by_cases (hid x.0)
              (λ n. rec a (take_next vb b).state la da (x.0 ∷ db) (b-alone a b i x q is db (y ∷ lb) n k) g k₁
              ∙ sym (those_drop (λ z. not (hid z)) y lb (ap (λ (z : Id). not (hid z)) f ∙ ap not n)))
              (λ n.
              let u = goes va tips pre-a co front a da x (outside hid q) (a_first a b i x q is n) la g in
              u.1 ∙ ap (λ (l : List Id). x.0 ∷ l) (rec (take_next va a).state (take_next vb b).state u.0 (x.0 ∷ da) (x.0 ∷ db) (both-take a b i x q is da la db (y ∷ lb) n g k) u.2 k₁)
              ∙ ap (λ (z : Id). z ∷ those (λ v. not (hid v)) lb) (sym f)
              ∙ sym (those_keep (λ z. not (hid z)) y lb (ap (λ (z : Id). not (hid z)) f ∙ ap not n)))

      -- a hands out what b hands out, without the hidden commits
      pub same-order : (lb : List Id) → Same lb
      same-order [] = none_left
      same-order (y ∷ lb) = one_more y lb (same-order lb)
