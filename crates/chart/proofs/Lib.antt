mod Leading
mod Taking
mod Ranking
