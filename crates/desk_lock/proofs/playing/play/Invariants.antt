use Rattle.desk_lock.proofs.playing.play.Given as goal

abbrev pub ghosts-play_as : goal.ghosts-play_as
ghosts-play_as g a = record { scripts = a.book.scripts }
