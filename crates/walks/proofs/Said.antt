-- What is had of a parameter at exit is just what is said of its last value: of a `&`, a `&[T]` and plain data nothing, of a `&mut` the last
-- value under its name, of a `&mut [T]` the last list with its length. So what a callee says of the parameters that were passed on to it is
-- what its caller has of them at exit, by computation: it is passed on whole, however many they are.
-- `stay-said`, `saids` say this of one parameter and of a list of them; `fit-said` and `go-said` are what `ends_at` and `walk_Meets` ask.
-- `facts` and `Allof` are the facts of several clauses as a contract states them, under ∗; `says_all`, `needs-all` and `hears-all` do for
-- them what `says`, `needs` and `heard` do for one. The kit's `Logic` is an argument of each law. Assumes nothing.
use Prim.Native.Nat.{ℕ}
use mathlib.Core.List.{List, [], ◌∷◌}
use seplogic.Ra.Ura.{Ura}
use base.Logic.{SProp, ent, sep, emp, via}
use types.Logic.{Logic, sem}
use contract.Lifetimes.{Lfts}
use contract.Monad.{fact, fact_i}
use types.Kit.{Item, Step, Seq, prop, Goal, raw, ◌⊛◌, ◌$◌, !, step, qed, split, frame, use0, use1, done}
use denote.Steps.{heard}
use denote.RattleType.{Denots}
use denote.Exit.{Kept, left}
use denote.Signature.{Slot, types_at}
use denote.Triple.End.{Kepts, Fins}
use denote.Triple.Walked.{Stay, Stays, fits_of, AllGo, needs}

module _ {n : ℕ} where
  abbrev pub stay-said : (s : Slot n) (k : Kept) → Stay s k
  stay-said s k = record { fit = λ κs x f. Unit {0}; has = λ κs x f vs. left ((s.row κs).exit k) x f }

  abbrev pub saids : (ss : List (Slot n)) (ks : Kepts ss) → Stays ss ks
  saids [] ks = tt
  saids (s ∷ ss) ks = (stay-said s ks.0, saids ss ks.1)

  pub fit-said : (κs : Lfts n) (ss : List (Slot n)) (ks : Kepts ss) (a : Denots (types_at ss κs)) (ws : Fins κs ss ks a) → fits_of κs ss ks (saids ss ks) a ws
  fit-said κs [] ks a ws = tt
  fit-said κs (s ∷ ss) ks a ws = (tt, fit-said κs ss ks.1 a.1 ws.1)

  pub go-said : {M : Type 1} {𝓤 : Ura M} (𝓛 : Logic 𝓤) (ss : List (Slot n)) (ks : Kepts ss) → AllGo 𝓛 n ss ks (saids ss ks)
  go-said 𝓛 [] ks = tt
  go-said 𝓛 (s ∷ ss) ks = ((λ κs x f vs ok. 𝓛.laws.⇛_intro (sem 𝓛 (left ((s.row κs).exit ks.0) x f))), go-said 𝓛 ss ks.1)

abbrev pub facts : {M : Type 1} (𝓤 : Ura M) → Type 0 → List (Type 0) → SProp 𝓤
facts 𝓤 φ [] = fact 𝓤 φ
facts 𝓤 φ (ψ ∷ ψs) = sep 𝓤 (fact 𝓤 φ) (facts 𝓤 ψ ψs)

abbrev pub Allof : Type 0 → List (Type 0) → Type 0
Allof φ [] = φ
Allof φ (ψ ∷ ψs) = φ × Allof ψ ψs

module _ {M : Type 1} {𝓤 : Ura M} (𝓛 : Logic 𝓤) where
  open 𝓛 use {H}

  pub facts-in : (φ : Type 0) (ψs : List (Type 0)) → Allof φ ψs → ent 𝓤 (emp 𝓤) (facts 𝓤 φ ψs)
  facts-in φ [] x = fact_i 𝓤 φ (emp 𝓤) x
  facts-in φ (ψ ∷ ψs) x = qed 𝓛 [] {P = sep 𝓤 (fact 𝓤 φ) (facts 𝓤 ψ ψs)} (use0 𝓛 (raw (facts 𝓤 ψ ψs)) (facts-in ψ ψs x.1) $ use0 𝓛 (raw (fact 𝓤 φ)) (fact_i 𝓤 φ (emp 𝓤) x.0) $ done !)

  pub facts-out : (φ : Type 0) (ψs : List (Type 0)) → ent 𝓤 (facts 𝓤 φ ψs) (fact 𝓤 (Allof φ ψs))
  facts-out φ [] = qed 𝓛 (raw (fact 𝓤 φ) ∷ []) {P = fact 𝓤 φ} (done !)
  facts-out φ (ψ ∷ ψs) = qed 𝓛 ((raw (fact 𝓤 φ) ⊛ raw (facts 𝓤 ψ ψs)) ∷ []) {P = fact 𝓤 (φ × Allof ψ ψs)} (
      split ! $ heard ! φ (λ x. use1 𝓛 (raw (fact 𝓤 (Allof ψ ψs))) (facts-out ψ ψs) $ heard ! (Allof ψ ψs) (λ y. use0 𝓛 (raw (fact 𝓤 (φ × Allof ψ ψs))) (fact_i 𝓤 (φ × Allof ψ ψs) (emp 𝓤) (x, y)) $ done !)))

  pub says_all : {K : Type 0} {Γ : List (Item 𝓤)} → K → (φ : Type 0) (ψs : List (Type 0)) {P : SProp 𝓤} → Allof φ ψs → Step K 𝓛 Γ (prop P) Γ (prop (sep 𝓤 P (facts 𝓤 φ ψs)))
  says_all t φ ψs {P} x = step (λ s. record { prf = via 𝓤 P s.prf (qed 𝓛 (raw P ∷ []) {P = sep 𝓤 P (facts 𝓤 φ ψs)} (frame ! $ use0 𝓛 (raw (facts 𝓤 φ ψs)) (facts-in φ ψs x) $ done !)) })

  pub needs-all : (φ : Type 0) (ψs : List (Type 0)) (P : SProp 𝓤) {Q : SProp 𝓤} → (Allof φ ψs → ent 𝓤 P Q) → ent 𝓤 (sep 𝓤 P (facts 𝓤 φ ψs)) Q
  needs-all φ ψs P {Q} h = via 𝓤 (sep 𝓤 P (fact 𝓤 (Allof φ ψs))) (qed 𝓛 (raw P ∷ raw (facts 𝓤 φ ψs) ∷ []) {P = sep 𝓤 P (fact 𝓤 (Allof φ ψs))} (frame ! $ use1 𝓛 (raw (fact 𝓤 (Allof φ ψs))) (facts-out φ ψs) $ done !)) (needs 𝓤 (Allof φ ψs) P h)

  pub hears-all : {K : Type 0} {Γ : List (Item 𝓤)} {G : Goal 𝓤 H} → K → (φ : Type 0) (ψs : List (Type 0)) → (Allof φ ψs → Seq K 𝓛 Γ G) → Seq K 𝓛 (raw (facts 𝓤 φ ψs) ∷ Γ) G
  hears-all t φ ψs k = use1 𝓛 (raw (fact 𝓤 (Allof φ ψs))) (facts-out φ ψs) $ heard t (Allof φ ψs) k
