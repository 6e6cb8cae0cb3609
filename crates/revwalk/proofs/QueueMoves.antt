-- The loops of sift_up and sink: what holds at their heads.
use mathlib.Core.Path.{◌≡◌, refl, sym, ◌∙◌}
use mathlib.Core.Logic.{⊎_elim}
use mathlib.Core.List.{List}
use mathlib.Core.Bool.{Bool, true, false}
use Prim.Native.Nat.{ℕ, ◌+◌, ◌*◌, ◌/◌, ◌≤◌, ◌<◌}
use native.Mathlib.Omega.{arith}
use lib.ListN.{length, set, length-set}
use lib.Seq.{get_or-set_same, get_or-set_other}
use Rattle.revwalk.specs.Order.{at}
use Rattle.revwalk.specs.Sift.{par, Shuffled, Total, Up, Down, Rose, Chosen, Sank}
use Rattle.revwalk.proofs.QueueSorts.{mix_none, mix_trans, mix_total}
use Rattle.revwalk.proofs.QueueSifts.{Swapped, mix_swap, up_step, up_top, up-stop, down_step, down-leaf}

-- an order that is transitive, and that looks at no more of the memory than what stands from cap on
pub record Lawful (by : List ℕ → ℕ → ℕ → Bool) (cap : ℕ) : Type 0 where
  pub trans : (line : List ℕ) (a b c : ℕ) → by line a b ≡ true → by line b c ≡ true → by line a c ≡ true
  pub same : (line line' : List ℕ) → ((s : ℕ) → at line (cap + s) ≡ at line' (cap + s)) → (a b : ℕ) → by line a b ≡ by line' a b

pub set_at : (line : List ℕ) (i x : ℕ) → i < length line → at (set line i x) i ≡ x
set_at line i x h = get_or-set_same line i x 0 h

pub set_off : (line : List ℕ) (i k x : ℕ) → (k ≡ i → ⊥) → at (set line i x) k ≡ at line k
set_off line i k x d = get_or-set_other line i k x 0 d

-- x at i, and then what stands at p at i and x at p
pub swap_set : (line : List ℕ) (i p x : ℕ) → i < length line → p < length line → (i ≡ p → ⊥) → Swapped (at (set line i x)) (at (set (set line i (at line p)) p x)) i p
swap_set line i p x hi hp d =
    let back : p ≡ i → ⊥ = λ e. d (sym e) in
    let more : p < length (set line i (at line p)) = rw length-set hp in
    record {
      first = set_off (set line i (at line p)) p i x d ∙ set_at line i (at line p) hi ∙ sym (set_off line i p x back);
      second = set_at (set line i (at line p)) p x more ∙ sym (set_at line i x hi);
      others = λ k a b. set_off (set line i (at line p)) p k x b ∙ set_off line i k (at line p) a ∙ sym (set_off line i k x a);
    }

-- ---- a slot on its way up
pub record Rising (by : List ℕ → ℕ → ℕ → Bool) (cap hole x : ℕ) (line₀ line : List ℕ) (i : ℕ) : Type 0 where
  pub upto : i ≤ hole
  pub long : length line ≡ length line₀
  pub kept : (k : ℕ) → hole < k → at line k ≡ at line₀ k
  pub sofar : (n : ℕ) → n ≤ cap → hole < n → Total (by line₀) (at (set line₀ hole x)) n → Up (by line₀) (at (set line₀ hole x)) n hole → Shuffled (at (set line₀ hole x)) (at (set line i x)) n × Up (by line₀) (at (set line i x)) n i

pub rise_begin : (by : List ℕ → ℕ → ℕ → Bool) (cap hole x : ℕ) (line : List ℕ) → Rising by cap hole x line line hole
rise_begin by cap hole x line =
    record {
      upto = omega arith;
      long = refl;
      kept = λ k h. refl;
      sofar = λ n hc hn t u. (mix_none (at (set line hole x)) n, u);
    }

module _ {by : List ℕ → ℕ → ℕ → Bool} {cap hole x : ℕ} {line₀ line : List ℕ} {i : ℕ} (w : Lawful by cap) (r : Rising by cap hole x line₀ line i) (hl : hole < length line₀) where
  up_in : i < length line
  up_in = omega (arith, r.long, r.upto)

  -- the test of the code, at the line as it was
  up-test : (b : Bool) (a c n : ℕ) → n ≤ cap → hole < n → by line a c ≡ b → by line₀ a c ≡ b
  up-test b a c n hc hn e =
      sym (w.same line line₀ (λ s. r.kept (cap + s) (omega arith)) a c) ∙ e

  kept_set : (v : ℕ) (k : ℕ) → hole < k → at (set line i v) k ≡ at line₀ k
  kept_set v k h =
      let d : k ≡ i → ⊥ = λ e. omega (arith, r.upto) in
      set_off line i k v d ∙ r.kept k h

  pub rise-step : 0 < i → by line x (at line (par i)) ≡ true → Rising by cap hole x line₀ (set line i (at line (par i))) (par i)
  rise-step h e =
      let up = r.upto in
      let apart : i ≡ par i → ⊥ = λ q. omega arith in
      let apart2 : par i ≡ i → ⊥ = λ q. omega arith in
      let hi = up_in in
      let hp : par i < length line = omega arith in
      let s = swap_set line i (par i) x hi hp apart in
      record {
        upto = omega arith;
        long = rw length-set r.long;
        kept = kept_set (at line (par i));
        sofar = λ n hc hn t u.
            let o = r.sofar n hc hn t u in
            let ein : i < n = omega arith in
            let pin : par i < n = omega arith in
            let f = at (set line i x) in
            let test : by line₀ (f i) (f (par i)) ≡ true = rw (set_at line i x hi, set_off line i (par i) x apart2) (up-test true x (at line (par i)) n hc hn e) in
            (mix_trans o.0 (mix_swap n i (par i) ein pin s), up_step (by line₀) (w.trans line₀) f (at (set (set line i (at line (par i))) (par i) x)) n i o.1 h ein s test);
      }

  pub rise-stop : 0 < i → by line x (at line (par i)) ≡ false → Rose by cap hole x line₀ (set line i x)
  rise-stop h e =
      let up = r.upto in
      let apart : i ≡ par i → ⊥ = λ q. omega arith in
      let apart2 : par i ≡ i → ⊥ = λ q. omega arith in
      let hi = up_in in
      record {
        kept = kept_set x;
        right = λ n hc hn t u.
            let o = r.sofar n hc hn t u in
            let ein : i < n = omega arith in
            let pin : par i < n = omega arith in
            let f = at (set line i x) in
            let test : by line₀ (f i) (f (par i)) ≡ false = rw (set_at line i x hi, set_off line i (par i) x apart2) (up-test false x (at line (par i)) n hc hn e) in
            let turned = (mix_total o.0 t).turned i (par i) ein pin apart test in
            record { mixed = o.0; heap = up-stop (by line₀) (w.trans line₀) f n i o.1 turned };
      }

  pub rise-top : i ≤ 0 → Rose by cap hole x line₀ (set line i x)
  rise-top h =
      record {
        kept = kept_set x;
        right = λ n hc hn t u.
            let o = r.sofar n hc hn t u in
            record { mixed = o.0; heap = up_top (by line₀) (w.trans line₀) (at (set line i x)) n i h o.1 };
      }

-- ---- a hole on its way down
pub record Sinking (by : List ℕ → ℕ → ℕ → Bool) (cap n : ℕ) (line₀ line : List ℕ) (i : ℕ) : Type 0 where
  pub low : i < n
  pub long : length line ≡ length line₀
  pub kept : (k : ℕ) → n ≤ k → at line k ≡ at line₀ k
  pub sofar : (x : ℕ) → n ≤ cap → Total (by line₀) (at (set line₀ 0 x)) n → Down (by line₀) (at (set line₀ 0 x)) n 0 → Shuffled (at (set line₀ 0 x)) (at (set line i x)) n × Down (by line₀) (at (set line i x)) n i

pub sink_begin : (by : List ℕ → ℕ → ℕ → Bool) (cap n : ℕ) (line : List ℕ) → 0 < n → Sinking by cap n line line 0
sink_begin by cap n line h =
    record {
      low = h;
      long = refl;
      kept = λ k h. refl;
      sofar = λ x hc t u. (mix_none (at (set line 0 x)) n, u);
    }

module _ {by : List ℕ → ℕ → ℕ → Bool} {cap n : ℕ} {line₀ line : List ℕ} {i : ℕ} (w : Lawful by cap) (r : Sinking by cap n line₀ line i) (hl : n ≤ length line₀) where
  down-test : (b : Bool) (a c : ℕ) → n ≤ cap → by line a c ≡ b → by line₀ a c ≡ b
  down-test b a c hc e =
      sym (w.same line line₀ (λ s. r.kept (cap + s) (omega arith)) a c) ∙ e

  -- the child that was chosen goes before the other
  chosen-first : (x c : ℕ) → i < n / 2 → n ≤ cap → Chosen by cap n (2 * i + 1) line c → Total (by line₀) (at (set line i x)) n → (k : ℕ) → 0 < k → k < n → par k ≡ i → (k ≡ c → ⊥) → by line₀ (at (set line i x) c) (at (set line i x) k) ≡ true
  chosen-first x c h hc ch t k k0 kn pk kc =
      ⊎_elim
      (λ e.
      let kl : k ≡ 2 * i + 1 + 1 = other e in
      let q = down-test false (at line (2 * i + 1 + 1)) (at line (2 * i + 1)) hc (ch.left e (omega arith)) in
      let q2 : lt (f k) (f c) ≡ false = rw (off k above, off c (cl e), kl, e) q in
      t.turned k c kn ch.low kc q2)
      (λ o.
      let e = o.0 in
      let kl : k ≡ 2 * i + 1 = other2 e in
      let q = down-test true (at line (2 * i + 1 + 1)) (at line (2 * i + 1)) hc o.1 in
      rw (off k above, off c (cl2 e), kl, e) q)
      ch.which
    where
      lt : ℕ → ℕ → Bool
      lt = by line₀

      f : ℕ → ℕ
      f = at (set line i x)

      off : (j : ℕ) → (j ≡ i → ⊥) → at (set line i x) j ≡ at line j
      off j d = set_off line i j x d

      above : k ≡ i → ⊥
      above q = omega arith

      cl : c ≡ 2 * i + 1 → c ≡ i → ⊥
      cl e q = omega arith

      cl2 : c ≡ 2 * i + 1 + 1 → c ≡ i → ⊥
      cl2 e q = omega arith

      other : c ≡ 2 * i + 1 → k ≡ 2 * i + 1 + 1
      other e = omega arith

      other2 : c ≡ 2 * i + 1 + 1 → k ≡ 2 * i + 1
      other2 e = omega arith

  pub sink-step : (c : ℕ) → i < n / 2 → Chosen by cap n (2 * i + 1) line c → Sinking by cap n line₀ (set line i (at line c)) c
  sink-step c h ch =
      let low = r.low in
      let cn = ch.low in
      let hi : i < length line = omega (arith, r.long) in
      let hc : c < length line = omega (arith, r.long) in
      let apart : i ≡ c → ⊥ = away in
      let s : (x : ℕ) → Swapped (at (set line i x)) (at (set (set line i (at line c)) c x)) i c = λ x. swap_set line i c x hi hc apart in
      record {
        low = ch.low;
        long = rw length-set r.long;
        kept = λ k l. let d : k ≡ i → ⊥ = λ e. omega arith in set_off line i k (at line c) d ∙ r.kept k l;
        sofar = λ x hcap t u.
            let o = r.sofar x hcap t u in
            let f = at (set line i x) in
            (mix_trans o.0 (mix_swap n i c low cn (s x)), down_step (by line₀) (w.trans line₀) f (at (set (set line i (at line c)) c x)) n i c o.1 cpos cn cpar (s x) (chosen-first x c h hcap ch (mix_total o.0 t)));
      }
    where
      away : i ≡ c → ⊥
      away q = ⊎_elim (λ e. omega arith) (λ o. let e = o.0 in omega arith) ch.which

      cpos : 0 < c
      cpos = ⊎_elim (λ e. omega arith) (λ o. let e = o.0 in omega arith) ch.which

      cpar : par c ≡ i
      cpar = ⊎_elim (λ e. omega arith) (λ o. let e = o.0 in omega arith) ch.which

  pub sink-less : (c : ℕ) → i < n / 2 → Chosen by cap n (2 * i + 1) line c → i < c
  sink-less c h ch = ⊎_elim (λ e. omega arith) (λ o. let e = o.0 in omega arith) ch.which

  pub sink-end : n / 2 ≤ i → Sank by cap n line₀ line i
  sink-end h =
      record {
        low = r.low;
        kept = r.kept;
        right = λ x hc t u.
            let o = r.sofar x hc t u in
            (o.0, down-leaf (by line₀) (w.trans line₀) (at (set line i x)) n i h o.1);
      }
