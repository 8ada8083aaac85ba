use Rattle.request_times.proofs.Sound.{sound}
use Rattle.request_times.proofs.laws.windows_are_sound.Goals as goal

pub returns : goal.returns
returns c = sound
