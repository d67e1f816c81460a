use Rattle.std.proofs.Common.{[], ◌∷◌, take, drop, sym, ◌∙◌, append_assoc}
use Rattle.ucon_base.proofs.Rising.{place_of, in_place_is}
use Rattle.ucon_base.proofs.text_set.placed.Goals as goal

pub returns : goal.returns
returns c =
    let t = c.args.t.now in
    let texts = c.args.texts.now in
    rw (c.in_ok-extend_from_slice-2.ensures.items, c.in_ok-push.ensures.items, c.in_ok-extend_from_slice.ensures.items, c.new-all.ensures.items, c.split_at.ensures.front, c.split_at.ensures.back, c.place.ensures.place)
    (append_assoc (take (place_of t texts) texts) (t ∷ []) (drop (place_of t texts) texts) ∙ sym (in_place_is texts t))
