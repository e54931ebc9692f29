use Rattle.rv_asm.proofs.PrintedNumbers.{decimal_read, hexadecimal_read, binary_read, octal_read}
use Rattle.rv_asm.proofs.laws.printed_numbers_are_read.Goals as goal

pub returns-clause-decimal : goal.returns-clause-decimal
returns-clause-decimal c = decimal_read

pub returns-clause-hexadecimal : goal.returns-clause-hexadecimal
returns-clause-hexadecimal c = hexadecimal_read

pub returns-clause-binary : goal.returns-clause-binary
returns-clause-binary c = binary_read

pub returns-clause-octal : goal.returns-clause-octal
returns-clause-octal c = octal_read
