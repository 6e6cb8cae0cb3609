-- The answer of painting, case by case: what was answered decides what is done, and a refusal that is given is one of a call.
-- Assumes nothing.
use Rattle.std.specs.Prelude.{Ok, Err}
use mathlib.Core.Path.{◌≡◌, refl, sym, ap, ◌∙◌, subst}
use Prim.Native.Nat.{ℕ, ◌<◌}
use mathlib.Core.List.{List}
use native.Mathlib.Omega.{arith}
use lib.IntN.{ℤ}
use Rattle.pending.specs.declared.Pending.{Pending}
use Rattle.walk.specs.declared.Refusal.{Refusal}
use Rattle.walk.specs.declared.Refusal.TheVariants.{CommitUnreadable}
use Rattle.walk.specs.Refusals.{number_of}
use Rattle.state.specs.declared.Record.{Record}
use Rattle.frontier.specs.Paint.{Marked}
use Rattle.frontier.specs.declared.marking.MarkError.{MarkError}
use Rattle.frontier.specs.declared.marking.MarkError.TheVariants.{Stop, NoRoom}
use Rattle.refill.specs.Painted.{Leaves, Fails}
use Rattle.painting.specs.declared.PaintError.TheVariants.{Refused, Touched}
use Rattle.painting.specs.Inner.{RefusesCall, Finishes}

-- another refusal is none of a call
pub refuses_low : {n : Refusal} {k : ℕ} → k ≡ number_of n → k < 9 → RefusesCall n CommitUnreadable
refuses_low e h = record { of_call = (omega arith, omega arith); same = λ c. absurd (omega (arith, e, c.0)) }

pub refuses_high : {n : Refusal} {k : ℕ} → k ≡ number_of n → 11 < k → RefusesCall n CommitUnreadable
refuses_high e h = record { of_call = (omega arith, omega arith); same = λ c. absurd (omega (arith, e, c.1)) }

module _ {a : Marked} {r : Record} {store names marks : List ℕ} {times : List ℤ} {line : List ℕ} where
  pub finish-going : {p : Pending} {times' : List ℤ} {line' : List ℕ} {r' : Record} → a ≡ Ok p → Leaves r store names marks times times' line line' r'
      → Finishes a r store names marks times times' line line' (Ok r')
  finish-going {p} {times'} {line'} {r'} e l =
      subst (λ (b : Marked). Finishes b r store names marks times times' line line' (Ok r')) (sym e) (record { does = (r', refl, l); of_call = tt })

  pub finish-stop : {n why : Refusal} {r' : Record} {e : MarkError} → a ≡ Err e → e ≡ Stop n → RefusesCall n why → Fails r r' → Finishes a r store names marks times times line line (Err (Refused why r'))
  finish-stop {n} {why} {r'} {e} i j w f =
      subst (λ (b : Marked). Finishes b r store names marks times times line line (Err (Refused why r'))) (sym (i ∙ ap (λ (x : MarkError). Err x) j)) (record { does = (why, r', refl, w, f, refl, refl); of_call = w.of_call })

  pub finish-full : {e : MarkError} → a ≡ Err e → e ≡ NoRoom → Finishes a r store names marks times times line line (Err Touched)
  finish-full i j = subst (λ (b : Marked). Finishes b r store names marks times times line line (Err Touched)) (sym (i ∙ ap (λ (x : MarkError). Err x) j)) (record { does = refl; of_call = tt })
