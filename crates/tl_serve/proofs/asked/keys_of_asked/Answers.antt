use Rattle.std.proofs.Common.{List, ◌∷◌, ◌++◌, [], map, sym, subst, take}
use Rattle.std.specs.List.{All, AllPairs}
use Rattle.std.proofs.lemmas.List.{take_all}
use Rattle.std.proofs.lemmas.List.Quantifiers.{all_pairs_push}
use Rattle.tl_hash.specs.Bytes.{Bytes}
use Rattle.tl_key.specs.KeyText.{IsVerifierText}
use Rattle.tl_key.specs.NoteKey.{PublicKey, cosignature_kind}
use Rattle.tl_serve.specs.Asking.{AreApart, AreKeysOf}
use Rattle.tl_serve.proofs.AskedKeys.{one_more, text_of, texts_more}
use Rattle.tl_serve.proofs.asked.keys_of_asked.Goals as goal

pub loop-witness-preserved : goal.loop-witness-preserved
loop-witness-preserved c =
    let w = c.witness-item.result in
    let key = c.in_ok-key.key in
    let before : List Bytes = map text_of (take c.loop-witness.witness-index c.args.asked.now) in
    let own = subst (λ (t : Bytes). IsVerifierText cosignature_kind t key) c.as_str.ensures.value c.in_ok-key.ensures in
    let apart = subst (All (λ (k : PublicKey). AreApart k key)) c.as_slice.ensures.value (rw c.if-has_alike.false at c.has_alike.ensures) in (
      subst (λ (texts : List Bytes). AreKeysOf texts c.push.new.self.items) (sym (texts_more c.args.asked.now c.loop-witness.witness-index w c.loop-witness-test.true c.witness-item.is))
          (subst (λ (keys : List PublicKey). AreKeysOf (before ++ text_of w ∷ []) keys) (sym c.in_ok-push.ensures.items)
          (one_more before c.loop-witness.keys.items (text_of w) key c.loop-witness.invariant.0 own)),
      subst (AllPairs AreApart) (sym c.in_ok-push.ensures.items) (all_pairs_push AreApart c.loop-witness.keys.items key c.loop-witness.invariant.1 apart),
    )

pub returns-clause-spelled : goal.returns-clause-spelled
returns-clause-spelled c =
    subst (λ (asked : List _). AreKeysOf (map text_of asked) c.loop-witness.keys.items)
    (take_all c.loop-witness.witness-index c.args.asked.now c.loop-witness-test.false) c.loop-witness.invariant.0
