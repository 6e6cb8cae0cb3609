-- Parents visited one after the other are the walk's own visits of their list, and their ids, each as wide as its kind, stand end to end.
-- Assumes nothing.
use mathlib.Core.Path.{◌≡◌, refl, sym, ap, ◌∙◌, subst}
use Prim.Native.Nat.{ℕ, suc, ◌+◌, ◌*◌, ◌≤◌, ◌<◌}
use mathlib.Core.List.Memᴰ
use mathlib.Core.List.{List, [], ◌∷◌, ◌++◌, map}
use native.Mathlib.Omega.{arith}
use native.Mathlib.Nat.{mul-zero}
use lib.ListN.{length, length-append}
use lib.IntN.{ℤ}
use Rattle.hash.proofs.Widths.{apart}
use Rattle.hash.specs.Bytes.{Id, set_down, width_of}
use Rattle.walk.specs.Opening.{parents_room}
use Rattle.walk.specs.declared.Settings.{Settings}
use Rattle.walk.specs.State.{Walk, State}
use Rattle.walk.specs.Next.{visit, visit_all}
use Rattle.walk.specs.Given.{joined}
use Rattle.reading.proofs.Down.{joined_snoc, set_down-none, set_down-next}
use Rattle.state.specs.declared.Record.{Record}
use Rattle.state.specs.Reads.{Memory}
use Rattle.links.specs.Link.{Ready, Went, Visits}
use Rattle.links.specs.Visits.{Past, VisitsAll, VisitsEach}

-- ---- one more at the end of a list

visit_all_snoc : (v : Walk) (ps : List (Id × ℤ)) (p : Id × ℤ) (st : State) → visit_all v st (ps ++ (p ∷ [])) ≡ visit v (visit_all v st ps) p.0 p.1
unfolding visit_all
visit_all_snoc v [] p st = refl
visit_all_snoc v (q ∷ ps) p st = visit_all_snoc v ps p (visit v st q.0 q.1)

pub map_snoc : {A B : Type 0} (f : A → B) (l : List A) (a : A) → map f (l ++ (a ∷ [])) ≡ map f l ++ (f a ∷ [])
map_snoc f [] a = refl
map_snoc f (b ∷ l) a = ap (λ (r : List _). f b ∷ r) (map_snoc f l a)

-- ---- a run of visits

-- the parents ps are visited, and their ids have the width of their kind
pub record Run (excluded : List ℕ) (settings : Settings) (r : Record) (m m' : Memory) (b b' : List ℕ) (ps : List (Id × ℤ)) (r' : Record) : Type 0 where
  pub all : VisitsAll excluded settings r m m' b b' ps r'
  pub long : length (joined (map (λ p. p.0) ps)) ≡ width_of settings.kind * length ps

module _ {excluded : List ℕ} {settings : Settings} {r : Record} {m : Memory} where
  pub each_none : VisitsEach excluded settings r m m [] r
  unfolding visit_all
  each_none = record { went = λ v sh st u n by d i. let z : 0 + n ≡ n = omega arith in record { ready = subst (λ (j : ℕ). Ready sh r m st u j) z d; line_kept = λ k h. refl } }

  -- one parent more
  pub each_next : {r' r'' : Record} {m' m'' : Memory} {ps : List (Id × ℤ)} (p : Id × ℤ) → length p.0 ≡ width_of settings.kind → VisitsEach excluded settings r m m' ps r'
      → Visits excluded settings r' m' m'' p.0 p.1 r'' → VisitsEach excluded settings r m m'' (ps ++ (p ∷ [])) r''
  each_next {r'} {r''} {m'} {m''} {ps} p w f v = record {
    went = λ a sh st u n by y i.
        let h : length (ps ++ (p ∷ [])) + n ≡ length ps + suc n = simp length-append (omega arith) in
        let one = f.went a sh st u (suc n) by (subst (λ (j : ℕ). Ready sh r m st u j) h y) (λ q j. i q (Memᴰ.append_left (p ∷ []) j)) in
        let two = v.right a sh (visit_all a st ps) u n by one.ready w (i p (Memᴰ.append_right ps (Memᴰ.head refl))) in
        subst (λ (s : State). Went sh m r'' m'' s u n) (sym (visit_all_snoc a ps p st)) (record { ready = two.ready; line_kept = λ j g. two.line_kept j g ∙ one.line_kept j g });
  }

module _ {excluded : List ℕ} {settings : Settings} {r : Record} {m : Memory} {b : List ℕ} where
  pub run-start : Run excluded settings r m m b b [] r
  unfolding joined
  run-start = record { all = record { went = each_none.went; down = λ h. set_down-none b }; long = sym (mul-zero (width_of settings.kind)) }

  -- one parent more: the k-th
  pub run-next : {r' r'' : Record} {m' m'' : Memory} {b' b'' : List ℕ} {ps : List (Id × ℤ)} (qs : List (Id × ℤ)) (p : Id × ℤ) (k : ℕ) → qs ≡ ps ++ (p ∷ []) → length ps ≡ k → k < 256
      → length p.0 ≡ width_of settings.kind → Run excluded settings r m m' b b' ps r' → Visits excluded settings r' m' m'' p.0 p.1 r'' → b'' ≡ set_down b' (width_of settings.kind * k) p.0
      → Run excluded settings r m m'' b b'' qs r''
  run-next {r'} {r''} {m'} {m''} {b'} {b''} {ps} qs p k e c f w run v d = subst (λ (l : List (Id × ℤ)). Run excluded settings r m m'' b b'' l r'') (sym e) (record { all = record { went = went_on.went; down = down-on }; long = long-on })
    where
      joined-on : joined (map (λ q. q.0) (ps ++ (p ∷ []))) ≡ joined (map (λ q. q.0) ps) ++ p.0
      joined-on = ap joined (map_snoc (λ (q : Id × ℤ). q.0) ps p) ∙ joined_snoc (map (λ q. q.0) ps) p.0

      long-on : length (joined (map (λ q. q.0) (ps ++ (p ∷ [])))) ≡ width_of settings.kind * length (ps ++ (p ∷ []))
      long-on = ap length joined-on ∙ simp length-append (omega (arith, run.long, w))

      went_on : VisitsEach excluded settings r m m'' (ps ++ (p ∷ [])) r''
      went_on = each_next p w (record { went = run.all.went }) v

      down-on : parents_room (width_of settings.kind) ≤ length b → b'' ≡ set_down b 0 (joined (map (λ q. q.0) (ps ++ (p ∷ []))))
      down-on h =
          let y : List ℕ = joined (map (λ q. q.0) ps) in
          let n : length y ≡ width_of settings.kind * k = run.long ∙ ap (λ (j : ℕ). width_of settings.kind * j) c in
          d
          ∙ ap (λ (l : List ℕ). set_down l (width_of settings.kind * k) p.0) (run.all.down h)
          ∙ ap (λ (j : ℕ). set_down (set_down b 0 y) j p.0) (sym n)
          ∙ set_down-next b y p.0 (omega (arith, n, w, h, apart (width_of settings.kind) f))
          ∙ ap (set_down b 0) (sym joined-on)

-- ---- the bytes past the ids

pub past-none : {width : ℕ} {n : ℕ} {b : List ℕ} → Past width n b b
past-none = record { same = λ k h. refl }

-- one id more
pub past_next : {width : ℕ} {k : ℕ} {b b' b'' : List ℕ} → Past width k b b' → Past width (k + 1) b' b'' → Past width (k + 1) b b''
past_next p q = record { same = λ j h. q.same j h ∙ p.same j (omega arith) }

-- ---- the lent buffers keep their lengths

pub record Sizes (m m' : Memory) : Type 0 where
  pub for_names : length m'.names ≡ length m.names
  pub for_marks : length m'.marks ≡ length m.marks
  pub for_times : length m'.times ≡ length m.times
  pub for_line : length m'.line ≡ length m.line

pub record Lengths (names marks : List ℕ) (times : List ℤ) (line parents names' marks' : List ℕ) (times' : List ℤ) (line' parents' : List ℕ) : Type 0 where
  pub for_names : length names' ≡ length names
  pub for_marks : length marks' ≡ length marks
  pub for_times : length times' ≡ length times
  pub for_line : length line' ≡ length line
  pub for_parents : length parents' ≡ length parents
