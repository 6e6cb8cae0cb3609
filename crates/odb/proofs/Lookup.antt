-- What `locate` and `try_find` answer. A search among the standing entries finds one under the id, and where their ids rise it misses none; in a
-- good store these are all entries, and the body of each is a part of the file. An answer is kept only where it is such a part. Assumes nothing.
use Rattle.std.specs.Prelude.{None, Option, Some}
use mathlib.Core.Path.{◌≡◌, refl, sym, ◌∙◌, ap, subst}
use Prim.Native.Nat.{ℕ, ◌+◌, ◌-◌, ◌*◌, ◌≤◌, ◌<◌}
use mathlib.Core.Bool.{true, false}
use mathlib.Core.List.{List, []}
use native.Mathlib.Omega.{arith}
use lib.ListN.{length, take, drop}
use lib.Dec.{leb}
use borrow.Author.Tests.{leb-true, le-leb, lt-leb}
use Rattle.hash.specs.Bytes.{Id, at, if_some}
use Rattle.hash.proofs.Tests.{by_cases, clash, and_both, and_of}
use Rattle.idlist.specs.IdList.{IdList, id_of, find_in, Finds, found_of}
use Rattle.idlist.proofs.Answer.{none_found, other_width, found_all, find_at}
use Rattle.odb.specs.Store.{entry_size, start, entries, entry_ids, body_start, body_end, body, standing, standing_entries, store_is_ok, find_entry, store_find}
use Rattle.odb.specs.Lookup.{is_part, part_at, located_of, part_of, is_body, ids_rise, looked_up, Under, FindsEntry, Locates, option_of, TriesFind, NotesEntry}
use Rattle.odb.specs.declared.Located.{Located}
use Rattle.odb.specs.declared.Located.TheVariants.{Body, Absent}
use Rattle.odb.proofs.Store.{good, good-count, broken_count, counted-within, standing_stand}
use Rattle.odb.proofs.Bodies.{start-end, end-within}

pub part-yes : (b : List ℕ) (s e : ℕ) → s ≤ e → e ≤ length b → is_part b s e ≡ true
unfolding is_part
part-yes b s e h k = and_of (le-leb s e h) (le-leb e (length b) k)

pub part_turned : (b : List ℕ) (s e : ℕ) → e < s → is_part b s e ≡ false
unfolding is_part
part_turned b s e h = rw (lt-leb s e h)

pub part-past : (b : List ℕ) (s e : ℕ) → s ≤ e → length b < e → is_part b s e ≡ false
unfolding is_part
part-past b s e h k = rw (le-leb s e h, lt-leb e (length b) k)

pub part_true : (b : List ℕ) (s e : ℕ) → is_part b s e ≡ true → (s ≤ e) × (e ≤ length b)
unfolding is_part
part_true b s e p = let t = and_both {a = leb s e} p in (leb-true s e t.0, leb-true e (length b) t.1)

-- ---- an answer, where it is a part of the file

pub part_at-yes : (b : List ℕ) (s e : ℕ) → s ≤ e → e ≤ length b → part_at b s e ≡ Body s e
unfolding part_at
part_at-yes b s e h k = rw (part-yes b s e h k)

-- an answer that names a part names this one, which is a part of the file
pub part_at-is : (b : List ℕ) (s e s' e' : ℕ) → part_at b s e ≡ Body s' e' → (s' ≡ s) × (e' ≡ e) × (s ≤ e) × (e ≤ length b)
unfolding part_at
part_at-is b s e s' e' q =
    by_cases (is_part b s e)
    (λ h.
    let t = part_true b s e h in
    let p : Body s e ≡ Body s' e' = rw h at q in
    (cc, cc, t.0, t.1))
    (λ h. let p : Absent ≡ Body s' e' = rw h at q in let z : ◌≡◌ {A = ℕ} 0 1 = cc in absurd (omega arith))

pub part_at-no : (b : List ℕ) (s e : ℕ) → is_part b s e ≡ false → Absent ≡ part_at b s e
unfolding part_at
part_at-no b s e h = rw h

-- the bytes of an answer
pub part_of-yes : (b : List ℕ) (s e : ℕ) → s ≤ e → e ≤ length b → take (e - s) (drop s b) ≡ part_of b (Body s e)
unfolding part_of at
part_of-yes b s e h k = rw (part-yes b s e h k)

pub part_of-no : (b : List ℕ) (s e : ℕ) → is_part b s e ≡ false → [] ≡ part_of b (Body s e)
unfolding part_of
part_of-no b s e h = rw h

-- ---- `locate`

module _ (w : ℕ) (b : List ℕ) (x : Id) where
  -- in a good store the standing entries are all, and their ids rise
  good-rises : store_is_ok w b ≡ true → ids_rise w b ≡ true
  good-rises ok = rw (good-count w b ok) (good w b ok).rises

  good-found : store_is_ok w b ≡ true → find_in (entry_ids w b) x (standing_entries w b) ≡ find_entry w b x
  unfolding find_entry
  good-found ok = rw (good-count w b ok)

  -- no entry is found: where the ids rise, only if none is there
  pub locates-none : (ids_rise w b ≡ true → find_in (entry_ids w b) x (standing_entries w b) ≡ None) → Locates w b x Absent
  unfolding looked_up
  locates-none f = record {
    good = λ ok. rw (sym (good-found ok) ∙ f (good-rises ok));
    rises = λ p. rw (f p);
    inside = λ s e p. let z : ◌≡◌ {A = ℕ} 0 1 = cc in absurd (omega arith);
    hit = λ s e p. let z : ◌≡◌ {A = ℕ} 0 1 = cc in absurd (omega arith);
    torn = λ _. refl;
    foreign = λ _. refl;
  }

  -- entry k is found
  pub locates-entry : (k : ℕ) → Under w b x k → length x ≡ w → (ids_rise w b ≡ true → find_in (entry_ids w b) x (standing_entries w b) ≡ Some k)
      → Locates w b x (part_at b (body_start w b k) (body_end w b k))
  unfolding looked_up
  locates-entry k u q f = record {
    good = λ ok.
        let h : k < entries b = omega (arith, u.stands, good-count w b ok) in
        rw (sym (good-found ok) ∙ f (good-rises ok)) (part_at-yes b (body_start w b k) (body_end w b k) (start-end w b ok k h) (end-within w b ok k h));
    rises = λ p. rw (f p);
    inside = λ s e p. let t = part_at-is b (body_start w b k) (body_end w b k) s e p in (omega arith, omega arith);
    hit = λ s e p. let t = part_at-is b (body_start w b k) (body_end w b k) s e p in (k, u, t.0, t.1);
    torn = λ t. absurd (omega (arith, u.stands, broken_count w b t));
    foreign = λ n. absurd (n q);
  }

found_some : (o : Option ℕ) (k : ℕ) → Some k ≡ found_of o → o ≡ Some k
found_some None k e = let z : ◌≡◌ {A = ℕ} 0 1 = cc in absurd (omega arith)
found_some (Some j) k e = cc

found_none : (o : Option ℕ) → None ≡ found_of o → o ≡ None
found_none None e = refl
found_none (Some j) e = let z : ◌≡◌ {A = ℕ} 0 1 = cc in absurd (omega arith)

-- among the standing entries, a search of ids that rise answers with the first under x
search_found : (w : ℕ) (b : List ℕ) (x : Id) {r : Option ℕ} → Finds (entry_ids w b) 0 (standing_entries w b) x r → ids_rise w b ≡ true → r ≡ found_of (find_in (entry_ids w b) x (standing_entries w b))
unfolding find_in
search_found w b x {r} f p = by_cases (standing w b) (λ t. found_all f (standing_stand w b t) p) (λ t. nothing t r f)
  where
    nothing : standing w b ≡ false → (q : Option ℕ) → Finds (entry_ids w b) 0 (standing_entries w b) x q → q ≡ found_of (find_in (entry_ids w b) x (standing_entries w b))
    nothing t (Some k) g = absurd (omega (arith, (g.hit k refl).1, broken_count w b t))
    nothing t None g = rw (broken_count w b t)

-- so the search finds the entry under x
pub search_finds : (w : ℕ) (b : List ℕ) (x : Id) (base n : ℕ) {r : Option ℕ} → base ≡ start b → n ≡ standing_entries w b → length x ≡ w
    → Finds (record { bytes = b; width = length x; base = base; stride = entry_size w }) 0 n x r → FindsEntry w b x r
unfolding entry_ids
search_finds w b x base n {r = r} eb en q f = record {
  hit = λ k e. let t = g.hit k e in (record { stands = t.1; is = t.2 }, q);
  rises = λ p. search_found w b x g p;
}
  where
    same : ◌≡◌ {A = IdList} (record { bytes = b; width = length x; base = base; stride = entry_size w }) (entry_ids w b)
    same = λ i. record { bytes = b; width = q i; base = eb i; stride = entry_size w }

    g : Finds (entry_ids w b) 0 (standing_entries w b) x r
    g = rw (same, en) at f

-- an entry that stands under x is the one that a search finds: ids that rise stand once
pub near_finds : (w : ℕ) (b : List ℕ) (x : Id) (k : ℕ) → length x ≡ w → k < standing_entries w b → id_of (entry_ids w b) k ≡ x → FindsEntry w b x (Some k)
near_finds w b x k q h is = record {
  hit = λ j e. subst (λ (i : ℕ). Under w b x i × (length x ≡ w)) (one e) (record { stands = h; is = is }, q);
  rises = λ p. ap found_of (sym (find_at (entry_ids w b) x (standing_entries w b) k p h is));
}
  where
    one : {j : ℕ} → Some k ≡ Some j → k ≡ j
    one e = cc

-- an id of another width stands nowhere
pub odd-width : (w : ℕ) (b : List ℕ) (x : Id) → (length x ≡ w → ⊥) → FindsEntry w b x None
unfolding entry_ids
odd-width w b x n = record {
  hit = λ k e. let z : ◌≡◌ {A = ℕ} 0 1 = cc in absurd (omega arith);
  rises = λ p. ap found_of (sym (by_cases (standing w b) there (λ t. none_found (entry_ids w b) x (standing_entries w b) (λ k h q. omega (arith, broken_count w b t)))));
}
  where
    there : standing w b ≡ true → find_in (entry_ids w b) x (standing_entries w b) ≡ None
    there t = other_width (entry_ids w b) x (standing_entries w b) (standing_stand w b t) n

-- an entry that stands in the file ends inside it
pub stood_within : (w : ℕ) (b : List ℕ) (k : ℕ) → k < standing_entries w b → start b + entry_size w * k + entry_size w ≤ length b
stood_within w b k h = omega (arith, counted-within w b k h)

-- the body of the entry that was found is the answer of `locate`, and its number is noted
pub located_at : {w : ℕ} {b : List ℕ} {x : Id} {n : ℕ} {r : Option ℕ} (k : ℕ) → FindsEntry w b x r → r ≡ Some k → Locates w b x (part_at b (body_start w b k) (body_end w b k)) × NotesEntry w b x n k
located_at {w} {b} {x} {n} {r} k f e =
    let t = f.hit k e in
    let first : ids_rise w b ≡ true → find_in (entry_ids w b) x (standing_entries w b) ≡ Some k = λ p. found_some (find_in (entry_ids w b) x (standing_entries w b)) k (sym e ∙ f.rises p) in
    (locates-entry w b x k t.0 t.1 first, record { under = λ d. t.0; rises = λ p. rw (first p) })

-- where none was found nothing is
pub located_none : {w : ℕ} {b : List ℕ} {x : Id} {n : ℕ} {r : Option ℕ} → FindsEntry w b x r → r ≡ None → Locates w b x Absent × NotesEntry w b x n n
located_none {w} {b} {x} {n} {r} f e =
    let gone : ids_rise w b ≡ true → find_in (entry_ids w b) x (standing_entries w b) ≡ None = λ p. found_none (find_in (entry_ids w b) x (standing_entries w b)) (sym e ∙ f.rises p) in
    (locates-none w b x gone, record { under = λ d. absurd (d refl); rises = λ p. rw (gone p) })

-- ---- `try_find`

pub tries_find : (w : ℕ) (b : List ℕ) (x : Id) (r : Located) → Locates w b x r → TriesFind w b x (is_body r) (part_of b r)
unfolding part_of store_find body at
tries_find w b x (Body s e) f =
    let i = f.inside s e refl in
    let p : is_part b s e ≡ true = part-yes b s e i.0 i.1 in
    record {
      good = λ ok. rw p (there (find_entry w b x) (f.good ok));
      rises = λ q. (ap is_body (f.rises q), ap (part_of b) (f.rises q));
      part = rw p (s, e - s, refl);
      absent = λ q. clash refl q;
      hit = λ _. let t = f.hit s e refl in (t.0, t.1, rw p (whose t.0 t.2 t.3));
      torn = λ q. (ap is_body (f.torn q), ap (part_of b) (f.torn q));
      foreign = λ q. (ap is_body (f.foreign q), ap (part_of b) (f.foreign q));
    }
  where
    whose : (k : ℕ) → s ≡ body_start w b k → e ≡ body_end w b k → at b s (e - s) ≡ body w b k
    whose k u v = λ i. at b (u i) (v i - u i)

    there : (o : Option ℕ) → Body s e ≡ located_of w b o → Some (at b s (e - s)) ≡ if_some o None (λ k. Some (body w b k))
    there None q = let z : ◌≡◌ {A = ℕ} 0 1 = cc in absurd (omega arith)
    there (Some k) q =
        let u : s ≡ body_start w b k = cc in
        let v : e ≡ body_end w b k = cc in
        ap Some (whose k u v)
tries_find w b x Absent f = record {
  good = λ ok. gone (find_entry w b x) (f.good ok);
  rises = λ q. (ap is_body (f.rises q), ap (part_of b) (f.rises q));
  part = (0, 0, sym (at_none b));
  absent = λ q. refl;
  hit = λ q. clash q refl;
  torn = λ _. (refl, refl);
  foreign = λ _. (refl, refl);
}
  where
    gone : (o : Option ℕ) → Absent ≡ located_of w b o → None ≡ if_some o None (λ k. Some (body w b k))
    gone None q = refl
    gone (Some k) q = let z : ◌≡◌ {A = ℕ} 0 1 = cc in absurd (omega arith)

    at_none : (b : List ℕ) → at b 0 0 ≡ []
    at_none b = refl
