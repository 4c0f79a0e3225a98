use Rattle.tool_forms.proofs.SoundnessLemmas.{sound_first}
use Rattle.tool_forms.proofs.player.Player.new.Goals as goal

pub returns-clause-sound : goal.returns-clause-sound
returns-clause-sound c = sound_first c.args.config c.in_ok-store.store.journal c.new-2.result.entries c.new-2.ensures.empty
