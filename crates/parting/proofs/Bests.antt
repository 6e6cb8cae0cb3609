-- The common commits are closed under parents, so one of them is best where it is no parent of another of them: along a path from another
-- one there is a last link into it that comes from elsewhere. Cycles and commits that are their own parents are no exception.
-- Assumes nothing.
use mathlib.Core.Path.{◌≡◌, refl, subst}
use mathlib.Core.Logic.{⊎_elim}
use mathlib.Core.List.Memᴰ
use mathlib.Core.List.{List, [], ◌∷◌}
use Rattle.hash.specs.Bytes.{Id}
use Rattle.walk.specs.Lookup.{World}
use Rattle.walk.specs.Reach.{Mem, links, Reaches, itself, through}
use Rattle.walk.proofs.Take.{reach_on}
use Rattle.reach.specs.Search.{Reached}
use Rattle.reach.proofs.Growth.{same_id?}
use Rattle.parting.specs.Best.{Common, Best, Unparented}

module _ {w : World} {a b : Id} where
  common-on : {x p : Id} → Common w a b x → Mem p (links w x) → Common w a b p
  common-on {x} {p} c m = record { from_one = reach_on w x p a c.from_one m; from-other = reach_on w x p b c.from-other m }

  -- a common commit other than x that reaches x leads to one whose parent x is
  last-link : {x : Id} (y : Id) → Common w a b y → (y ≡ x → ⊥) → Reaches w x y → (z : Id) × Common w a b z × (z ≡ x → ⊥) × Mem x (links w z)
  last-link {x} y c n (itself e) = absurd (n e)
  last-link {x} y c n (through {p = p} m r) =
      ⊎_elim (λ e. (y, c, n, subst (λ (q : Id). Mem q (links w y)) e m)) (λ o. last-link p (common-on c m) o r) (same_id? p x)

  pub best-unparented : {x : Id} → Best w a b x → Unparented w a b x
  best-unparented {x} h = record { common = h.common; no-child = λ y c n m. h.not-reached y c n (through m (itself refl)) }

  pub unparented-best : {x : Id} → Unparented w a b x → Best w a b x
  unparented-best {x} h = record { common = h.common; not-reached = λ y c n r. let l = last-link y c n r in h.no-child l.0 l.1 l.2 l.3 }

-- ---- from the list of a search

pub from_tip : {w : World} {t : Id} {l : List Id} → Reached w (t ∷ []) l → (x : Id) → Mem x l → Reaches w x t
from_tip {w} {t} r x m = let s = r.sound x m in subst (Reaches w x) (Memᴰ.eq_of_singleton s.lent) s.reaches

pub into_list : {w : World} {t : Id} {l : List Id} → Reached w (t ∷ []) l → (x : Id) → Reaches w x t → Mem x l
into_list {w} {t} r x h = r.complete x (record { root = t; lent = Memᴰ.head refl; reaches = h })
