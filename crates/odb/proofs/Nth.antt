-- An entry by its number. One of the standing entries stands in the file, so its id is read there and its body, where that is a part of the
-- file; in a good store every body is one, so entry and body are the layout's own. Assumes nothing.
use mathlib.Core.Path.{◌≡◌, sym, ◌∙◌, ap}
use Prim.Native.Nat.{ℕ, ◌+◌, ◌-◌, ◌*◌, ◌≤◌, ◌<◌}
use mathlib.Core.Bool.{true}
use mathlib.Core.List.{List, []}
use native.Mathlib.Omega.{arith}
use lib.ListN.{length}
use borrow.Author.Tests.{lt-ltb, le-ltb}
use Rattle.hash.specs.Bytes.{at}
use Rattle.idlist.specs.IdList.{id_of}
use Rattle.odb.specs.Store.{entry_size, start, entries, entry_ids, body_start, body_end, body, standing_entries, store_is_ok}
use Rattle.odb.specs.Lookup.{part_at, part_of, entry_id, entry_body}
use Rattle.odb.proofs.Store.{good-count}
use Rattle.odb.proofs.Bodies.{start-end, end-within}
use Rattle.odb.proofs.Lookup.{part_at-yes, part_of-yes}

module _ (w : ℕ) (b : List ℕ) (k : ℕ) where
  -- no such entry
  module _ (h : standing_entries w b ≤ k) where
    pub past-id : [] ≡ entry_id w b k
    unfolding entry_id
    past-id = rw (le-ltb k (standing_entries w b) h)

    pub past-body : [] ≡ entry_body w b k
    unfolding entry_body
    past-body = rw (le-ltb k (standing_entries w b) h)

  -- one of the standing entries
  module _ (h : k < standing_entries w b) where
    pub own-id : at b (start b + entry_size w * k) w ≡ entry_id w b k
    unfolding entry_id id_of entry_ids
    own-id = rw (lt-ltb k (standing_entries w b) h)

    pub own_body : part_of b (part_at b (body_start w b k) (body_end w b k)) ≡ entry_body w b k
    unfolding entry_body
    own_body = rw (lt-ltb k (standing_entries w b) h)

  -- of a good store
  module _ (ok : store_is_ok w b ≡ true) (h : k < entries b) where
    stands : k < standing_entries w b
    stands = rw (good-count w b ok) h

    pub good-id : entry_id w b k ≡ id_of (entry_ids w b) k
    unfolding entry_id
    good-id = rw (lt-ltb k (standing_entries w b) stands)

    pub good-body : entry_body w b k ≡ body w b k
    unfolding body at
    good-body =
        let p = start-end w b ok k h in
        let q = end-within w b ok k h in
        sym (own_body stands)
        ∙ ap (part_of b) (part_at-yes b (body_start w b k) (body_end w b k) p q)
        ∙ sym (part_of-yes b (body_start w b k) (body_end w b k) p q)
