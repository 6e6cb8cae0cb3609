-- Excluded tips and repeats change nothing of what is to be handed out: a tip is admitted, or turned away by the cutoff, only if it is not
-- excluded. Assumes nothing.
use mathlib.Core.Path.{◌≡◌, refl}
use mathlib.Core.Logic.{inl, inr, ⊎_elim, ◌↔◌}
use mathlib.Core.Bool.{false}
use mathlib.Core.List.{List, []}
use Rattle.hash.specs.Bytes.{Id, among}
use Rattle.walk.specs.State.{Walk}
use Rattle.walk.specs.Opening.{distinct}
use Rattle.walk.specs.Reach.{Mem}
use Rattle.walk.specs.Demand.{Region, Premises, tipStays, AdmittedTip, Turned, Admitted, Hidden, Listed}
use Rattle.walk.proofs.Open.{distinct-out, distinct-in}

module _ (v : Walk) (tips : List Id) where
  abbrev pub kept : List Id
  kept = distinct [] v.excluded tips

  kept_in : (x : Id) → Mem x tips → among x v.excluded ≡ false → Mem x kept
  unfolding among
  kept_in x m e = distinct-in v.excluded [] tips x m e refl

  kept_out : (x : Id) → Mem x kept → Mem x tips
  kept_out x m = (distinct-out v.excluded [] tips x m).0

  turned-in : (x : Id) → Turned v tips x → Turned v kept x
  unfolding tipStays
  turned-in x t = record { lent = kept_in x t.lent t.not-excluded; not-excluded = t.not-excluded; away = t.away }

  turned-out : (x : Id) → Turned v kept x → Turned v tips x
  unfolding tipStays
  turned-out x t = record { lent = kept_out x t.lent; not-excluded = t.not-excluded; away = t.away }

  tip_in : (x : Id) → AdmittedTip v tips x → AdmittedTip v kept x
  unfolding tipStays
  tip_in x t = record { lent = kept_in x t.lent t.not-excluded; not-excluded = t.not-excluded; stays = t.stays }

  tip-out : (x : Id) → AdmittedTip v kept x → AdmittedTip v tips x
  unfolding tipStays
  tip-out x t = record { lent = kept_out x t.lent; not-excluded = t.not-excluded; stays = t.stays }

  admitted_in : (x : Id) → Admitted v tips x → Admitted v kept x
  admitted_in x (Admitted.tip t) = Admitted.tip (tip_in x t)
  admitted_in x (Admitted.link {x = y} a l) =
      Admitted.link (admitted_in y a) (record { follows = l.follows; not-excluded = l.not-excluded; not-turned = λ t. l.not-turned (turned-out x t); in_time = l.in_time })

  admitted-out : (x : Id) → Admitted v kept x → Admitted v tips x
  admitted-out x (Admitted.tip t) = Admitted.tip (tip-out x t)
  admitted-out x (Admitted.link {x = y} a l) =
      Admitted.link (admitted-out y a) (record { follows = l.follows; not-excluded = l.not-excluded; not-turned = λ t. l.not-turned (turned-in x t); in_time = l.in_time })

  pub kept-listed : (x : Id) → Listed v kept x ↔ Listed v tips x
  unfolding Listed Hidden
  kept-listed x = (λ l. (admitted-out x l.0, l.1), λ l. (admitted_in x l.0, l.1))

  region-out : (x : Id) → Region v kept x → Region v tips x
  unfolding Region
  region-out x r = (r.0, ⊎_elim (λ m. inl (kept_out r.0 m)) inr r.1, r.2)

  -- premises on all tips are premises on fewer
  pub kept-premises : Premises v tips → Premises v kept
  kept-premises p = record {
    readable = λ x r. p.readable x (region-out x r);
    agrees = λ x r. p.agrees x (region-out x r);
    falls = λ x q r m. p.falls x q (region-out x r) m;
  }
