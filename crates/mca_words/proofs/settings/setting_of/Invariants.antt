use Rattle.std.proofs.Common.{◌≡◌, drop}
use Rattle.mca_words.specs.Options.{setting_of}
use Rattle.mca_words.proofs.settings.setting_of.Given as goal

abbrev pub invariant-loop-setting : goal.invariant-loop-setting
invariant-loop-setting l = setting_of (drop l.setting-index l.settings) l.name ≡ setting_of l.settings l.name
