use Rattle.std.proofs.Common.{◌∙◌, ap}
use Rattle.std.proofs.lemmas.Result.{IfOk-weaker}
use Rattle.ucon_disk.specs.Image.{State, image_of}
use Rattle.ucon_disk.specs.MemDisk.{model_of}
use Rattle.ucon_disk.proofs.Filled.{made_is_image, some_filling}
use Rattle.ucon_disk.proofs.memory.MemDisk.image.Goals as goal

pub returns-in_err-replayed-clause-every : goal.returns-in_err-replayed-clause-every
returns-in_err-replayed-clause-every c = some_filling (model_of c.args.self.now)

pub returns-clause-every : goal.returns-clause-every
returns-clause-every c = some_filling (model_of c.args.self.now)

pub returns-clause-is_image : goal.returns-clause-is_image
returns-clause-is_image c =
    let same = c.in_ok-replayed.ensures in
    let s = model_of c.args.self.now in
    IfOk-weaker c.image.result _ _ (λ made is. made_is_image s c.args.len c.args.fill.now made (is ∙ ap (λ (t : State). image_of t c.args.len c.args.fill.now) same)) c.image.ensures
