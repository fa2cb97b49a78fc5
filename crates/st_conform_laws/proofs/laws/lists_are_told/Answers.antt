use Rattle.st_conform_laws.proofs.WhatListsTell.{list_alike, list_told}
use Rattle.st_conform_laws.proofs.laws.lists_are_told.Goals as goal

pub returns : goal.returns
returns c = record {
  each = λ T rs Ls all new under N h. list_told Ls T rs all new under N h;
  before = λ T rs Ls all new. list_alike Ls T rs all new;
}
