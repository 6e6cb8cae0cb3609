-- A painted state on its way, and the list that its calls hand out: with an empty queue the list is empty, and else its first is the queue's first and
-- the rest is what the state after it hands out. Assumes nothing.
use Rattle.std.specs.Prelude.{Option}
use mathlib.Core.Path.{◌≡◌, refl, sym, ◌∙◌, ap, subst}
use Prim.Native.Nat.{ℕ, suc}
use mathlib.Core.Bool.{Bool, true}
use mathlib.Core.List.Memᴰ
use mathlib.Core.List.{List, [], ◌∷◌, map}
use native.Mathlib.Omega.{arith}
use lib.IntN.{ℤ}
use Rattle.hash.specs.Bytes.{Id}
use Rattle.walk.specs.State.{Walk, State, ids, with_queue}
use Rattle.walk.specs.Lookup.{seconds_for}
use Rattle.walk.specs.Settings.{followed}
use Rattle.walk.specs.Next.{Answer, Step, step, end, handed, visit_all, take_next, next}
use Rattle.walk.specs.Calls.{calls}
use Rattle.walk.specs.Reach.{Mem, links}
use Rattle.walk.specs.Demand.{Region, Premises, Hands, hands, ends}
use Rattle.walk.proofs.Laws.{Coherent}
use Rattle.walk.proofs.Queue.{Walked}
use Rattle.walk.proofs.Take.{Closed, take-given, take-stepped, away-region}
use Rattle.walk.proofs.Visits.{visit_all-painted}
use Rattle.walk.proofs.Moves.{next-painted}
use Rattle.walk.proofs.Stays.{ended-next}

-- ---- lists that are handed out

hands_end : (l : List Id) (a : Answer) (rest : List Answer) → Hands l (a ∷ rest) → a.kind ≡ end → l ≡ []
hands_end (x ∷ l) a rest (hands g t e r) k = let w : handed x g t ≡ end = sym e ∙ k in let z : ◌≡◌ {A = ℕ} 0 1 = cc in absurd (omega arith)
hands_end [] a rest (ends e r) k = refl

handed-same : {x y : Id} {g h : Option ℕ} {t u : Option ℤ} → handed x g t ≡ handed y h u → x ≡ y
handed-same e = cc

hands-first : (x : Id) (l : List Id) (a : Answer) (rest : List Answer) → Hands (x ∷ l) (a ∷ rest) → (y : Id) (g : Option ℕ) (t : Option ℤ) → a.kind ≡ handed y g t → (x ≡ y) × Hands l rest
hands-first x l a rest (hands g₁ t₁ e r) y g t k = (handed-same (sym e ∙ k), r)

hands_none {ℓ} : {X : Type ℓ} (a : Answer) (rest : List Answer) → Hands [] (a ∷ rest) → (y : Id) (g : Option ℕ) (t : Option ℤ) → a.kind ≡ handed y g t → X
hands_none a rest (ends e r) y g t k = let w : handed y g t ≡ end = sym k ∙ e in let z : ◌≡◌ {A = ℕ} 0 1 = cc in absurd (omega arith)

-- parents with their seconds are told by their ids
pairs-by : (f : Id → ℤ) (ps : List (Id × ℤ)) → ((p : Id × ℤ) → Mem p ps → p.1 ≡ f p.0) → ps ≡ map (λ (x : Id). (x, f x)) (map (λ (p : Id × ℤ). p.0) ps)
pairs-by f [] h = refl
pairs-by f (p ∷ ps) h =
    ap (λ (t : ℤ). (p.0, t) ∷ ps) (h p (Memᴰ.head refl))
    ∙ ap (λ (q : List (Id × ℤ)). (p.0, f p.0) ∷ q) (pairs-by f ps (λ q m. h q (Memᴰ.tail m)))

-- a commit's followed parents, with the store's seconds
unfoldable pub parents_due : Walk → Id → List (Id × ℤ)
parents_due v x = map (λ (p : Id). (p, seconds_for v.world p)) (followed v.settings (links v.world x))

-- ---- on its way

module _ (v : Walk) (tips : List Id) (pre : Premises v tips) (co : Coherent v.world) (front : Id → Bool) where
  -- after the ids of done the state st hands out l
  pub record Going (st : State) (done l : List Id) : Type 0 where
    pub is-painted : st.painted ≡ true
    pub walked : Walked v tips front st done
    pub closed : Closed v front st done
    pub hands-all : (k : ℕ) → Hands l (calls v k st)

  call-one : (st : State) (k : ℕ) → st.painted ≡ true → calls v (suc k) st ≡ (take_next v st).answer ∷ calls v k (take_next v st).state
  unfolding calls
  call-one st k p = ap (λ (r : Step). r.answer ∷ calls v k r.state) (next-painted v st p)

  pub ended : (st : State) (done l : List Id) → Going st done l → st.queue ≡ [] → l ≡ []
  unfolding calls step
  ended st done l g e =
      let n = ended-next v st (record { is-painted = g.is-painted; is-empty = e }) in
      hands_end l (next v st).answer [] (g.hands-all 1) (ap (λ (r : Step). r.answer.kind) n)

  module _ (st : State) (done : List Id) (x : Id × ℤ) (rest : List (Id × ℤ)) (is : st.queue ≡ x ∷ rest) where
    first-in : Mem x.0 (ids st.queue)
    unfolding ids
    first-in = subst (λ (l : List Id). Mem x.0 l) (sym (ap ids is)) (Memᴰ.head refl)

    -- the state after the first was taken: its followed parents were visited
    pub taken : (l : List Id) → Going st done l → (take_next v st).state ≡ visit_all v (with_queue rest st) (parents_due v x.0)
    unfolding step parents_due
    taken l g =
        let r : Region v tips x.0 = away-region v tips pre co front x.0 (g.walked.queue-away x.0 first-in) in
        let t = take-given v tips pre co st x rest is r in
        let ps = t.3 in
        let e : ps ≡ map (λ (p : Id). (p, seconds_for v.world p)) (followed v.settings (links v.world x.0)) =
        pairs-by (seconds_for v.world) ps t.7 ∙ ap (λ (q : List Id). map (λ (p : Id). (p, seconds_for v.world p)) q) t.6 in
        ap (λ (q : Step). q.state) t.5 ∙ ap (visit_all v (with_queue rest st)) e

    still-painted : (l : List Id) → Going st done l → (take_next v st).state.painted ≡ true
    unfolding with_queue
    still-painted l g = ap (λ (q : State). q.painted) (taken l g) ∙ visit_all-painted v (parents_due v x.0) (with_queue rest st) ∙ g.is-painted

    abbrev pub Onward : List Id → Type 0
    Onward l = (m : List Id) × (l ≡ x.0 ∷ m) × Going (take_next v st).state (x.0 ∷ done) m

    pub goes : (l : List Id) → Going st done l → Onward l
    goes [] g =
        let s = take-stepped v tips pre co front st done x rest is g.walked g.closed in
        hands_none (take_next v st).answer (calls v 0 (take_next v st).state) (subst (Hands []) (call-one st 0 g.is-painted) (g.hands-all 1)) x.0 s.generation-of s.seconds-of s.says
    goes (y ∷ l) g =
        let s = take-stepped v tips pre co front st done x rest is g.walked g.closed in
        let f : (k : ℕ) → (y ≡ x.0) × Hands l (calls v k (take_next v st).state) =
        λ k. hands-first y l (take_next v st).answer (calls v k (take_next v st).state) (subst (Hands (y ∷ l)) (call-one st k g.is-painted) (g.hands-all (suc k)))
        x.0 s.generation-of s.seconds-of s.says in (
          l,
          ap (λ (z : Id). z ∷ l) (f 0).0,
          record { is-painted = still-painted (y ∷ l) g; walked = s.walked; closed = s.closed; hands-all = λ k. (f k).1 },
        )
