use Rattle.pw_run.proofs.LinkRuns.{ran}
use Rattle.pw_run.proofs.link.run.Goals as goal

pub returns-in-Ok : goal.returns-in-Ok
returns-in-Ok c =
    ran c.args.script c.in_ok-new.field-0 c.in-Ok.outcome c.told.result.text.items c.told.result.found c.in_ok-new.ensures
    (record { run = c.in-Ok.ensures.ok; sound = c.in-Ok.ensures.sound; sound_bytes = c.in-Ok.ensures.sound_bytes; bytes = c.in-Ok.ensures.bytes; lossless = c.in-Ok.ensures.lossless; arrives = c.in-Ok.ensures.arrives; losses = c.in-Ok.ensures.losses })
    c.told.ensures.text c.told.ensures.found
