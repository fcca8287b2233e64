use Rattle.link_script.proofs.text.SettingLemmas.{no_setting}
use Rattle.link_script.proofs.text.read_setting.read_setting.Goals as goal

pub returns-clause-only : goal.returns-clause-only
returns-clause-only c s is =
    absurd
    (no_setting c.args.text.now c.in_default.ensures.only c.in_default-strip_word.ensures.only c.in_default-strip_word-2.ensures.only
    c.in_default-strip_word-3.ensures.only c.in_default-strip_word-4.ensures.only c.in_default-strip_word-5.ensures.only s is)
