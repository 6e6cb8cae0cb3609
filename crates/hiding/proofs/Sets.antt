-- Whether a run is listed depends on the hidden tips by their ids alone: what is admitted does not ask for them, and with more of them more is hidden.
-- Assumes nothing.
use mathlib.Core.Path.{◌≡◌, refl, sym, ◌∙◌, ap, subst}
use mathlib.Core.Logic.{◌⊎◌, inl, inr, ⊎_elim, ◌↔◌}
use Prim.Native.Nat.{ℕ}
use mathlib.Core.Bool.{Bool, true, false}
use mathlib.Core.List.Memᴰ
use mathlib.Core.List.{List, [], ◌∷◌, ◌++◌}
use Rattle.hash.specs.Bytes.{Id}
use Rattle.walk.specs.declared.Settings.{Settings}
use Rattle.walk.specs.Lookup.{World}
use Rattle.walk.specs.State.{Walk}
use Rattle.walk.specs.Reach.{Mem, Reaches}
use Rattle.walk.specs.Demand.{Region, Premises, tipStays, AdmittedTip, Turned, AdmittedLink, Admitted, tip, link, Hidden, Listed}

-- a list of one id has no other
pub mem-one : {x t : Id} → Mem x (t ∷ []) → x ≡ t
mem-one m = ⊎_elim (λ e. e) (λ n. absurd (Memᴰ.not-nil n)) (Memᴰ.cases_cons m)

-- a walk by its parts
abbrev pub walk : World → Settings → List Id → List Id → ℕ → Walk
walk w s e h f = record { world = w; settings = s; excluded = e; hidden = h; fuel = f }

module _ (w : World) (s : Settings) (e tips h k : List Id) (f g : ℕ) where
  admitted-tip : (x : Id) → AdmittedTip (walk w s e h f) tips x → AdmittedTip (walk w s e k g) tips x
  unfolding tipStays
  admitted-tip x a = record { lent = a.lent; not-excluded = a.not-excluded; stays = a.stays }

  turned-back : (x : Id) → Turned (walk w s e k g) tips x → Turned (walk w s e h f) tips x
  unfolding tipStays
  turned-back x a = record { lent = a.lent; not-excluded = a.not-excluded; away = a.away }

  admitted-link : (x p : Id) → AdmittedLink (walk w s e h f) tips x p → AdmittedLink (walk w s e k g) tips x p
  admitted-link x p a = record { follows = a.follows; not-excluded = a.not-excluded; not-turned = λ t. a.not-turned (turned-back p t); in_time = a.in_time }

  -- what is admitted does not depend on what is hidden
  pub admitted-too : (x : Id) → Admitted (walk w s e h f) tips x → Admitted (walk w s e k g) tips x
  admitted-too x (tip a) = tip (admitted-tip x a)
  admitted-too x (link {x = y} b a) = link (admitted-too y b) (admitted-link y x a)

  -- fewer hidden tips hide less
  hidden-more : ((y : Id) → Mem y h → Mem y k) → (x : Id) → Hidden (walk w s e h f) tips x → Hidden (walk w s e k g) tips x
  unfolding Hidden
  hidden-more i x a = (a.0, i a.0 a.1, a.2)

-- more hidden tips leave less
pub listed_less : (w : World) (s : Settings) (e tips h k : List Id) (f g : ℕ) → ((y : Id) → Mem y h → Mem y k) → (x : Id) → Listed (walk w s e k g) tips x → Listed (walk w s e h f) tips x
unfolding Listed
listed_less w s e tips h k f g i x a = (admitted-too w s e tips k h g f x a.0, λ b. a.1 (hidden-more w s e tips h k f g i x b))

-- and suppose more
pub premises_less : (w : World) (s : Settings) (e tips h k : List Id) (f g : ℕ) → ((y : Id) → Mem y h → Mem y k) → Premises (walk w s e k g) tips → Premises (walk w s e h f) tips
unfolding Region
premises_less w s e tips h k f g i p = record {
  readable = λ x r. p.readable x (wider x r);
  agrees = λ x r. p.agrees x (wider x r);
  falls = λ x q r m. p.falls x q (wider x r) m;
}
  where
    wider : (x : Id) → Region (walk w s e h f) tips x → Region (walk w s e k g) tips x
    wider x r = (r.0, ⊎_elim (λ m. inl m) (λ m. inr (i r.0 m)) r.1, r.2)

module _ (w : World) (s : Settings) (e tips : List Id) where
  -- "the runs left by hiding both are exactly those left by the first that are also left by the second"
  pub listed-both : (h k : List Id) (f g j : ℕ) (x : Id) → Listed (walk w s e (h ++ k) j) tips x ↔ (Listed (walk w s e h f) tips x × Listed (walk w s e k g) tips x)
  unfolding Listed Hidden
  listed-both h k f g j x = (
    (λ a. (listed_less w s e tips h (h ++ k) f j (λ y m. Memᴰ.append_left k m) x a, listed_less w s e tips k (h ++ k) g j (λ y m. Memᴰ.append_right h m) x a)),
    (λ a. (admitted-too w s e tips h (h ++ k) f j x a.0.0, λ b. ⊎_elim (λ m. a.0.1 (b.0, m, b.2)) (λ m. a.1.1 (b.0, m, b.2)) (Memᴰ.append_cases h b.1))),
  )

  -- "Adding one hidden tip takes away only runs reachable from it"
  pub listed-one : (h : List Id) (t : Id) (f g : ℕ) (x : Id) → Listed (walk w s e h f) tips x → (Reaches w x t → ⊥) → Listed (walk w s e (h ++ (t ∷ [])) g) tips x
  unfolding Listed Hidden
  listed-one h t f g x a n = (
    admitted-too w s e tips h (h ++ (t ∷ [])) f g x a.0,
    (λ b. ⊎_elim (λ m. a.1 (b.0, m, b.2)) (λ m. n (subst (Reaches w x) (mem-one m) b.2)) (Memᴰ.append_cases h b.1)),
  )
