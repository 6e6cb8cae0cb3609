-- Card 8 (document 02): "For two tips, give a best common ancestor as git's merge-base document has it: reachable from both, and not reachable
-- from another commit that is." Assumes nothing.
use Rattle.std.specs.Prelude.{◌≡◌}
use Rattle.hash.specs.Bytes.{Id}
use Rattle.walk.specs.Lookup.{World}
use Rattle.walk.specs.Reach.{Mem, links, Reaches}

module _ (w : World) (a b : Id) where
  -- "reachable from both"; "A tip counts as its own ancestor"
  pub record Common (x : Id) : Type 0 where
    pub from_one : Reaches w x a
    pub from-other : Reaches w x b

  -- "and not reachable from another commit that is"
  pub record Best (x : Id) : Type 0 where
    pub common : Common x
    pub not-reached : (y : Id) → Common y → (y ≡ x → ⊥) → Reaches w x y → ⊥

  -- the same by links alone: no parent of another common commit. What is tested
  pub record Unparented (x : Id) : Type 0 where
    pub common : Common x
    pub no-child : (y : Id) → Common y → (y ≡ x → ⊥) → Mem x (links w y) → ⊥
