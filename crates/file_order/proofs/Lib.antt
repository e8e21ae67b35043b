mod Ranked
