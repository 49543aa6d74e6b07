-- `renew` meets its contract. Assumes nothing.
use Rattle.std.proofs.Common.{◌≡◌, ◌∙◌, refl, ap, length, take, replicate}
use Rattle.std.proofs.Math.Seq.{length-take-le}
use Rattle.records.specs.Book.{no_record}
use Rattle.registry.proofs.lent.renew.Goals as goal

pub returns : goal.returns
returns c =
    let n : length (take 33 c.args.records.now) ≡ 33 = length-take-le 33 c.args.records.now c.requires in
    let e : c.fill.new.self ≡ replicate 33 no_record = c.fill.ensures.after (λ y h. h) ∙ ap (λ n. replicate n no_record) n in
    rw e refl
