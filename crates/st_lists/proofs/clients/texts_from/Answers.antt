use Rattle.std.proofs.Common.{◌≡◌, ◌+◌, [], ◌∷◌, ◌++◌, length, take, refl, sym, ap, ◌∙◌}
use Rattle.std.proofs.lemmas.Option.{slice_get_read}
use Rattle.st_lists.specs.Clients.{ids_from, taken_after, texts_from}
use Rattle.st_lists.specs.declared.lists.Body.TheVariants.{Commit}
use Rattle.st_lists.proofs.Logs.{take-get}
use Rattle.st_lists.proofs.Texts.{taken_all, text_written}
use Rattle.st_lists.proofs.clients.texts_from.Goals as goal

pub loop-intent-preserved : goal.loop-intent-preserved
loop-intent-preserved c =
    let r = c.args.reference in
    let s = c.args.session in
    let t = c.args.taken in
    let ids = c.args.ids in
    let Ns = c.args.intents.now in
    let i = c.loop-intent.intent-index in
    let N = c.intent-item.result in
    let v = c.loop-intent.invariant in
    let more : take (i + 1) Ns ≡ take i Ns ++ N ∷ [] = take-get Ns i N (slice_get_read Ns (length Ns) i N refl c.loop-intent-test.true c.intent-item.is) in
    let range : c.ids_from-range.result ≡ ids_from s (taken_after t ids (take i Ns)) ids = c.ids_from-range.ensures ∙ ap (λ k. ids_from s k ids) v.so_far in
    record {
      written = c.in_ok-push_waiting.ensures ∙ (λ j. v.written j ++ Commit r (range j) (c.in_ok-intent.ensures j) ∷ []) ∙ sym (text_written r s t ids (take i Ns) N) ∙ ap (texts_from r s t ids) (sym more);
      so_far = sym (taken_all t ids (take i Ns) N) ∙ ap (taken_after t ids) (sym more);
    }
