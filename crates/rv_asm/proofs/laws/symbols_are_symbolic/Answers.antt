use Rattle.rv_asm.proofs.SymbolTexts.{symbol_text}
use Rattle.rv_asm.proofs.SymbolsBack.{text_symbolic}
use Rattle.rv_asm.proofs.laws.symbols_are_symbolic.Goals as goal

pub returns-clause-read : goal.returns-clause-read
returns-clause-read c = symbol_text

pub returns-clause-back : goal.returns-clause-back
returns-clause-back c = text_symbolic
