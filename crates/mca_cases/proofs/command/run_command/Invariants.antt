use Rattle.mca_cases.proofs.command.run_command.Given as goal

abbrev pub ghosts-analyse_counted : goal.ghosts-analyse_counted
ghosts-analyse_counted a = record { name = a.blank.name; parts = a.blank.parts }
