-- The four answers of card 8 exclude each other, so each comes exactly where its reason holds. Assumes nothing.
use mathlib.Core.Path.{refl}
use mathlib.Core.List.{List, [], ◌∷◌}
use Rattle.hash.specs.Bytes.{Id}
use Rattle.walk.specs.Lookup.{World}
use Rattle.reach.specs.Search.{Stuck, AllReadable}
use Rattle.mergebase.specs.Parting.{MergeBase, Parts, unreadable, nothing, best, tangled}
use Rattle.mergebase.specs.Exactly.{Exactly}

pub not_stuck {ℓ} : {X : Type ℓ} (w : World) (roots : List Id) → Stuck w roots → AllReadable w roots → X
unfolding AllReadable
not_stuck w roots s r = absurd (s.unreadable (r s.commit s.reached))

pub exactly : {w : World} {a b : Id} {r : MergeBase} → Parts w a b r → Exactly w a b r
exactly {w} {a} {b} (unreadable s) = record {
  is_13 = (λ e. s, λ k. refl);
  is_none = (λ e. cc, λ k. not_stuck w (a ∷ b ∷ []) s k.0);
  is_23 = (λ e. cc, λ k. not_stuck w (a ∷ b ∷ []) s k.0);
  is-commit = (λ e. cc, λ k. not_stuck w (a ∷ b ∷ []) s k.0);
  the_commit = λ o e. cc;
}
exactly {w} {a} {b} (nothing r n) = record {
  is_13 = (λ e. cc, λ s. not_stuck w (a ∷ b ∷ []) s r);
  is_none = (λ e. (r, n), λ k. refl);
  is_23 = (λ e. cc, λ k. absurd (n k.1.0 k.1.1));
  is-commit = (λ e. cc, λ k. absurd (n k.1.0 k.1.1.common));
  the_commit = λ o e. cc;
}
exactly {w} {a} {b} (best r x h) = record {
  is_13 = (λ e. cc, λ s. not_stuck w (a ∷ b ∷ []) s r);
  is_none = (λ e. cc, λ k. absurd (k.1 x h.common));
  is_23 = (λ e. cc, λ k. absurd (k.2 x h));
  is-commit = (λ e. (r, (x, h)), λ k. (_, refl));
  the_commit = λ o e. (x, h, refl);
}
exactly {w} {a} {b} (tangled r x c n) = record {
  is_13 = (λ e. cc, λ s. not_stuck w (a ∷ b ∷ []) s r);
  is_none = (λ e. cc, λ k. absurd (k.1 x c));
  is_23 = (λ e. (r, (x, c), n), λ k. refl);
  is-commit = (λ e. cc, λ k. absurd (n k.1.0 k.1.1));
  the_commit = λ o e. cc;
}
