-- `sha1::written` meets its contract: the bytes of the five words, set down one after the other. Assumes nothing.
use Rattle.std.proofs.Common.{◌≡◌, replicate, sym, refl, ap, ◌∙◌, rules}
use Rattle.hash.specs.Bytes.{set_down}
use Rattle.digest.specs.Words.{word_bytes}
use Rattle.sha1_hash.proofs.written.Goals as goal

pub returns : goal.returns
unfolding set_down
returns c = let e1 : c.set_down.new.out ≡ set_down (replicate 20 0) 0 (word_bytes c.args.s.a) = c.set_down.ensures ∙ ap (set_down (replicate 20 0) 0) c.word_bytes.ensures in
    let e2 = c.set_down-2.ensures ∙ (λ p. set_down (e1 p) 4 (c.word_bytes-2.ensures p)) in
    let e3 = c.set_down-3.ensures ∙ (λ p. set_down (e2 p) 8 (c.word_bytes-3.ensures p)) in
    let e4 = c.set_down-4.ensures ∙ (λ p. set_down (e3 p) 12 (c.word_bytes-4.ensures p)) in
    let e5 = c.set_down-5.ensures ∙ (λ p. set_down (e4 p) 16 (c.word_bytes-5.ensures p)) in
    e5
