-- What a walk reads of a store is each entry's header, and no message: so over two stores that differ only in feed digits of embargoed commits all
-- that a walk goes by is the same. Assumes nothing.
use Rattle.std.specs.Prelude.{None, Option, Some}
use mathlib.Core.Path.{◌≡◌, refl, sym, ap, ◌∙◌}
use mathlib.Core.Bool.{Bool, true, false}
use mathlib.Core.List.{List}
use Prim.Native.Nat.{ℕ, ◌-◌, ◌<◌}
use native.Mathlib.Omega.{arith}
use lib.ListN.{length}
use Rattle.hash.specs.Bytes.{Id, among, if_some}
use Rattle.hash.proofs.Tests.{by_cases}
use Rattle.idlist.specs.IdList.{id_of}
use Rattle.object.specs.Header.{header}
use Rattle.odb.specs.Store.{start, entries, entry_ids, body_start, body_end, body, store_is_ok, find_entry, store_find}
use Rattle.odb.proofs.Bodies.{body-length}
use Rattle.odb.proofs.Entries.{entry-hit}
use Rattle.embargo.specs.Embargo.{SameButFeed, DifferOnlyInFeed}
use Rattle.embargo.proofs.Heads.{header-same}
use Rattle.embargo.proofs.Stores.{entries-same, end_same, begin-same, ok_same, found-same}

module _ (w : ℕ) (es : List Id) (a b : List ℕ) (d : DifferOnlyInFeed w es a b) where
  pub both-good : store_is_ok w b ≡ true
  both-good = sym (ok_same w a b d.good d.same_length d.same_entries) ∙ d.good

  long_same : (k : ℕ) → k < entries a → length (body w a k) ≡ length (body w b k)
  long_same k h =
      let n = entries-same w a b d.good d.same_length d.same_entries in
      body-length w a d.good k h
      ∙ (λ j. end_same w a b d.good d.same_length d.same_entries k j - begin-same w a b d.good d.same_length d.same_entries k j)
      ∙ sym (body-length w b both-good k (omega (arith, n)))

  -- each entry's header is the same
  pub entry-same : (k : ℕ) → k < entries a → header w (body w a k) ≡ header w (body w b k)
  entry-same k h =
      by_cases (among (id_of (entry_ids w a) k) es)
      (λ m. header-same w (body w a k) (body w b k) (long_same k h) (d.embargoed_ones k h m).before)
      (λ m. ap (header w) (d.others k h m))

  -- and so what a walk reads of an id
  pub header-found : (x : Id) → if_some (store_find w a x) None (λ c. Some (header w c)) ≡ if_some (store_find w b x) None (λ c. Some (header w c))
  unfolding store_find
  header-found x = go (find_entry w a x) refl ∙ ap (λ (o : Option ℕ). if_some (if_some o None (λ k. Some (body w b k))) None (λ c. Some (header w c))) (found-same w a b d.good d.same_length d.same_entries x)
    where
      go : (o : Option ℕ) → find_entry w a x ≡ o
          → if_some (if_some o None (λ k. Some (body w a k))) None (λ c. Some (header w c)) ≡ if_some (if_some o None (λ k. Some (body w b k))) None (λ c. Some (header w c))
      go None e = refl
      go (Some k) e = ap Some (entry-same k (entry-hit w a x k e).0)

  -- the body of an id that is not embargoed is the same
  pub other-found : (x : Id) → among x es ≡ false → store_find w a x ≡ store_find w b x
  unfolding store_find
  other-found x m = go (find_entry w a x) refl ∙ ap (λ (o : Option ℕ). if_some o None (λ k. Some (body w b k))) (found-same w a b d.good d.same_length d.same_entries x)
    where
      go : (o : Option ℕ) → find_entry w a x ≡ o → if_some o None (λ k. Some (body w a k)) ≡ if_some o None (λ k. Some (body w b k))
      go None e = refl
      go (Some k) e =
          let h = entry-hit w a x k e in
          ap Some (d.others k h.0 (ap (λ (y : Id). among y es) h.1 ∙ m))
