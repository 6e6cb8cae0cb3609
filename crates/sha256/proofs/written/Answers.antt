-- `sha256::written` meets its contract: the bytes of the eight words, set down one after the other. Assumes nothing.
use Rattle.std.proofs.Common.{◌≡◌, replicate, sym, refl, ap, ◌∙◌, rules}
use Rattle.hash.specs.Bytes.{set_down}
use Rattle.digest.specs.Words.{word_bytes}
use Rattle.sha256.proofs.written.Goals as goal

pub returns : goal.returns
unfolding set_down
returns c = let e1 : c.set_down.new.out ≡ set_down (replicate 32 0) 0 (word_bytes c.args.s.a) = c.set_down.ensures ∙ ap (set_down (replicate 32 0) 0) c.word_bytes.ensures in
    let e2 = c.set_down-2.ensures ∙ (λ p. set_down (e1 p) 4 (c.word_bytes-2.ensures p)) in
    let e3 = c.set_down-3.ensures ∙ (λ p. set_down (e2 p) 8 (c.word_bytes-3.ensures p)) in
    let e4 = c.set_down-4.ensures ∙ (λ p. set_down (e3 p) 12 (c.word_bytes-4.ensures p)) in
    let e5 = c.set_down-5.ensures ∙ (λ p. set_down (e4 p) 16 (c.word_bytes-5.ensures p)) in
    let e6 = c.set_down-6.ensures ∙ (λ p. set_down (e5 p) 20 (c.word_bytes-6.ensures p)) in
    let e7 = c.set_down-7.ensures ∙ (λ p. set_down (e6 p) 24 (c.word_bytes-7.ensures p)) in
    let e8 = c.set_down-8.ensures ∙ (λ p. set_down (e7 p) 28 (c.word_bytes-8.ensures p)) in
    e8
