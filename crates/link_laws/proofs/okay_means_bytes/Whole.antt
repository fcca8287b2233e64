-- Over a whole run: the lines with OK hold, and links without damage make it sound.
use Rattle.std.proofs.Common.{◌≡◌, ℕ, zero, suc, List, refl, sym, ap, ◌∙◌, subst}
use Rattle.link_script.specs.declared.command.Command.{Command}
use Rattle.rpc_ids.specs.declared.method.Role.TheVariants.{Server, Client}
use Rattle.rpc_frames.specs.Written.{IsSendable}
use Rattle.rpc_journal.proofs.Push.{beginning_is_legal}
use Rattle.link_laws.specs.world.Sound.{AreSendable, IsSound, NoFlips}
use Rattle.link_laws.specs.world.Turns.{Turns}
use Rattle.link_laws.specs.world.World.{Setup, World, first_world, with_server}
use Rattle.link_laws.proofs.one_run.Parts.{GoesOn, client_keeps, ends_on, flushed_before, server_keeps}
use Rattle.link_laws.proofs.one_run.Ways.{reached_is_sound, turns_go_on}
use Rattle.link_laws.specs.okay_means_bytes.Okay.{LinesHoldFrom, OkayMeansTheBytes, OnTheWay, SoundThroughout}
use Rattle.link_laws.proofs.okay_means_bytes.Runs.{Inv, all_later}
use Rattle.link_laws.proofs.okay_means_bytes.Turning.{first_inv, turns_then, turns_walk}

pub okay_means_the_bytes : OkayMeansTheBytes
okay_means_the_bytes k commands now demo run legal sound fits =
    let before : World = run.before in
    let on : GoesOn before now = ends_on k before now run.ends in
    let i : Inv k commands demo before =
    (turns_walk k commands demo run.count 0 (first_world commands) before refl run.turns sound fits).kept (beginning_is_legal k.rule k.server before.server now.server on.server legal) (first_inv k commands demo) in
    let lines : now.lines ≡ before.lines =
    ap (λ x. x.lines) run.ends.is
    ∙ (client_keeps k (λ x. x.lines) (λ x p. refl) (with_server k before run.ends.server) run.ends.client ∙ server_keeps k (λ x. x.lines) (λ x p. refl) before run.ends.server) in
    subst (LinesHoldFrom k commands now 0) (sym lines) (all_later k commands demo before now on.server on.client 0 before.lines i.lines)

-- what goes out by the end is sendable, and so it was before
sendable_before : (k : Setup) (w now : World) → GoesOn w now → AreSendable k now → AreSendable k w
sendable_before k w now on fits = record {
  server = flushed_before (IsSendable Client) k.server w.server now.server on.server fits.server;
  client = flushed_before (IsSendable Server) k.client w.client now.client on.client fits.client;
}

sound_on : (k : Setup) (commands : List Command) → NoFlips k.losses → (n count : ℕ) (w now : World) → Turns k count (first_world commands) w → (turns : Turns k n w now) → AreSendable k now → OnTheWay k (IsSound k) n w now turns
sound_on k commands calm zero count w now way same fits = reached_is_sound k commands count w calm way (subst (AreSendable k) (sym same) fits)
sound_on k commands calm (suc n) count w now way turns fits = (
  reached_is_sound k commands count w calm way (sendable_before k w now (turns_go_on k calm (suc n) w now turns) fits),
  sound_on k commands calm n (suc count) turns.0 now (turns_then k count (first_world commands) w turns.0 way turns.1) turns.2 fits,
)

pub sound_throughout : SoundThroughout
sound_throughout k commands now calm run fits =
    sound_on k commands calm run.count 0 (first_world commands) run.before refl run.turns (sendable_before k run.before now (ends_on k run.before now run.ends) fits)
