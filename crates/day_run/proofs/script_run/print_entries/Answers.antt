use Rattle.day_run.proofs.script_run.print_entries.Goals as goal
