-- What the answers of card 8 (document 02) tell, both ways. Assumes nothing.
use Rattle.std.specs.Prelude.{◌≡◌, ◌↔◌, [], ◌∷◌, Some, Ok}
use Rattle.hash.specs.Bytes.{Id}
use Rattle.walk.specs.declared.Refusal.TheVariants.{UnreadableReach, TangledReach}
use Rattle.walk.specs.Lookup.{World}
use Rattle.reach.specs.Search.{Stuck, AllReadable}
use Rattle.parting.specs.Best.{Common, Best}
use Rattle.object.specs.declared.ObjectId.{ObjectId}
use Rattle.mergebase.specs.Parting.{MergeBase, no_base, refused_base, base_at}

-- "Say none exactly when no commit is reachable from both"; "23 tangled reach, exactly then; before it 13"
pub record Exactly (w : World) (a b : Id) (r : MergeBase) : Type 0 where
  pub is_13 : (r ≡ refused_base UnreadableReach) ↔ Stuck w (a ∷ b ∷ [])
  pub is_none : (r ≡ no_base) ↔ (AllReadable w (a ∷ b ∷ []) × ((x : Id) → Common w a b x → ⊥))
  pub is_23 : (r ≡ refused_base TangledReach) ↔ (AllReadable w (a ∷ b ∷ []) × ((x : Id) × Common w a b x) × ((y : Id) → Best w a b y → ⊥))
  pub is-commit : ((c : ObjectId) × (r ≡ Ok (Some c))) ↔ (AllReadable w (a ∷ b ∷ []) × ((x : Id) × Best w a b x))
  pub the_commit : (c : ObjectId) → r ≡ Ok (Some c) → (x : Id) × Best w a b x × (r ≡ base_at x)
