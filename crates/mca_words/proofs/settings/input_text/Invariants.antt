use Rattle.std.proofs.Common.{◌≡◌, drop}
use Rattle.mca_words.specs.Options.{input_of}
use Rattle.mca_words.proofs.settings.input_text.Given as goal

abbrev pub invariant-loop-setting : goal.invariant-loop-setting
invariant-loop-setting l = input_of (drop l.setting-index l.settings) ≡ input_of l.settings
